mod OneHolderLaws
