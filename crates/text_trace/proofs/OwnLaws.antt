-- The rows of a text that begins with a table.
use Rattle.text_trace.proofs.Names.{◌≡◌, ℕ, List, [], map, refl, Option, Some, None, Result, Ok, Err, sym, subst, ◌∙◌, ap, FaultyLine, Texts, Entry, added_often}
use Rattle.std.specs.Str.Lossy.{utf8_lossy}
use Rattle.own_play.specs.declared.text.Opened.{Opened}
use Rattle.own_play.specs.Machine.{State, start}
use Rattle.own_play.specs.Output.{Begun, told, begun_in}
use Rattle.own_play.specs.Walk.{Walk, rest_walk, IsNextStep}
use Rattle.sync_play.specs.Walk.{nothing}
use Rattle.sync_play.specs.declared.walk.Rest.{Rest}
use Rattle.sync_play.specs.declared.walk.Step.{Step}
use Rattle.text_own.specs.Table.{Lock, told_lock}
use Rattle.text_trace.specs.Own.{cells_at, traced, rows_begun, rows_or_fault}
unfoldable use Rattle.text_trace.specs.Own.{rows_of}
use Rattle.text_trace.specs.Trace.{RowsAndFault, no_rows}

module _ (names : List (List ℕ)) (lock : Lock) (rest rest' : Rest ℕ) (s s' : State) (all : RowsAndFault ℕ) (rows : List (Entry ℕ)) (was : all ≡ traced names (rest_walk lock rest s) rows) where
  pub walks_on : (told : Option (Step ℕ)) (step : Step ℕ) (cells : Texts ℕ) (rows' : List (Entry ℕ)) → told ≡ Some step → IsNextStep lock s rest s' rest' (Ok told) → cells ≡ cells_at names (record { step = step; after = s' }) → rows' ≡ added_often 1 cells rows →
      all ≡ traced names (rest_walk lock rest' s') rows'
  walks_on told step cells rows' some next is added =
      was ∙ ap (λ (w : Walk). traced names w rows) (subst (λ (t : Option (Step ℕ)). IsNextStep lock s rest s' rest' (Ok t)) some next)
      ∙ ap (λ (r : List (Entry ℕ)). traced names (rest_walk lock rest' s') r) (sym (added ∙ ap (λ (c : Texts ℕ). added_often 1 c rows) is))

  pub ends : (told : Option (Step ℕ)) → told ≡ None → IsNextStep lock s rest s' rest' (Ok told) → all ≡ record { titles = names; rows = rows; fault = None }
  ends told none next = was ∙ ap (λ (w : Walk). traced names w rows) (subst (λ (t : Option (Step ℕ)). IsNextStep lock s rest s' rest' (Ok t)) none next).0

  pub stops : (fault : FaultyLine) → IsNextStep lock s rest s' rest' (Err fault) → all ≡ record { titles = names; rows = rows; fault = Some fault }
  stops fault next = was ∙ ap (λ (w : Walk). traced names w rows) next

pub opens_none : (lines : List (List ℕ)) (fault : FaultyLine) → begun_in lines ≡ Err fault → no_rows fault ≡ rows_of lines
unfolding rows_of
opens_none lines fault is = sym (ap rows_or_fault is)

pub opens : (lines : List (List ℕ)) (begun : Begun) → begun_in lines ≡ Ok begun → rows_begun begun ≡ rows_of lines
unfolding rows_of
opens lines begun is = sym (ap rows_or_fault is)

-- what was read is walked from its first step on
pub rows_read :
    (opened : Opened) (titles shown : List (List ℕ)) (s : State) (none rows : List (Entry ℕ)) (fault : Option FaultyLine) → opened.rest.left ≡ nothing → shown ≡ titles → shown ≡ map utf8_lossy (told opened).lock.names → s ≡ start (told_lock opened.lock) opened.parties → none ≡ [] →
    traced shown (rest_walk (told_lock opened.lock) opened.rest s) none ≡ record { titles = shown; rows = rows; fault = fault } → record { titles = titles; rows = rows; fault = fault } ≡ rows_begun (told opened)
rows_read opened titles shown s none rows fault left same lossy starts empty is =
    let begun : traced shown (rest_walk (told_lock opened.lock) opened.rest s) none ≡ rows_begun (told opened) = rw (left, lossy, starts, empty) refl in
    ap (λ (t : List (List ℕ)). record { titles = t; rows = rows; fault = fault }) (sym same) ∙ sym is ∙ begun
