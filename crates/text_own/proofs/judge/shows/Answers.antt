use Rattle.std.proofs.Common.{◌≡◌, true, Some, rules}
use Rattle.std.specs.Prelude.{slice_get}
use Rattle.model_events.specs.Exports.{u64_arithmetic}
use Rattle.model_own.specs.OneHolder.{Fit}
use Rattle.text_own.specs.Judge.{opening_in, entries_of, fits_calls}
use Rattle.text_own.proofs.JudgeLaws.{is_own_lock}
use Rattle.text_own.proofs.judge.shows.Goals as goal

pub returns-then-fits_all : goal.returns-then-fits_all
returns-then-fits_all c = λ _ parties past run.
    let lock = c.args.lock.now in
    let word = c.in-Some.word in
    let roles = c.in_ok-roles.roles.items in
    let opening = opening_in lock.opening.items in
    let entries = entries_of lock.calls in
    let fit : Fit word roles lock.rows.items = search rules in
    let fits : fits_calls roles lock.calls ≡ true = search rules in
    let found : slice_get lock.opening.items c.args.at ≡ Some 0 = search rules in
    let is = is_own_lock c.args.at word lock.opening.items lock.calls roles lock.rows.items (search rules) found fit fits in
    (c.any_such_lock_has_one_holder.ensures.one u64_arithmetic word opening entries roles lock.rows.items parties past is run, c.any_such_lock_has_one_holder.ensures.answers u64_arithmetic word opening entries roles lock.rows.items parties past is run)
