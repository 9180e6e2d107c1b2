-- What the proofs of this crate read of others, and of its own definitions.
pub use Rattle.running_passes.specs.Parts.{whole, nothing, half, together, IsWhole, IsAgain, IsSamePart, weight, AddUp, total, Each, IsShared}
pub use Rattle.running_passes.specs.Passes.{sights_of, Told}
pub use Rattle.running_passes.specs.Tallies.{IsTally}
pub use Rattle.running_passes.specs.Views.{spent_view, left_view, right_view, joined_view, IsCounted, Updates, part_of, IsBlank, sum_of}
pub use Rattle.running_passes.specs.declared.part.Part.{Part}
pub use Rattle.running_passes.specs.declared.view.View.{View}
pub use Rattle.std.proofs.Common.{◌≡◌, ◌+◌, ◌≤◌, ℕ, sym, subst, arith, zero, suc, ◌-◌, ◌*◌, ◌^◌, ◌<◌, List, [], ◌∷◌, ◌++◌, set, ap, ◌∙◌, pow-add, pow_pos, mul-pos, zero-mul, get_or, refl, rules}
pub use Rattle.std.proofs.lemmas.Bool.{eqb-true, eqb-false}
pub use Rattle.std.proofs.lemmas.Bool.Decides.{nat_tests}
pub use lib.ListN.{get_elem?}
pub use mathlib.Core.Option.{some, some-injective, some-ne-none}
