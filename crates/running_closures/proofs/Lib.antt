mod Covered
