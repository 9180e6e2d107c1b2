use Rattle.draw_story.proofs.Names.{ℕ, List, [], ◌∙◌, refl, sym, ap, map, string_bytes}
use Rattle.std.proofs.Common.{Vec, Global, Bor}
use Rattle.std.specs.Str.Lossy.{utf8_lossy}
use Rattle.std.proofs.lemmas.Simd.{map-map}
use Rattle.text_room.specs.Walk.{told}
use Rattle.text_trace.specs.declared.several.Setting.{Setting}
use Rattle.draw_story.specs.Story.{object_shown}
use Rattle.draw_story.specs.declared.story.StoryObject.{StoryObject}
use Rattle.draw_story.proofs.SeveralLaws.{output_is, is_story}
use Rattle.draw_story.proofs.several.play_group.Goals as goal

pub returns-in-None-clause-story : goal.returns-in-None-clause-story
returns-in-None-clause-story g c =
    let z = g.T.AtomicInteger.arithmetic in
    let numerals = g.T.TextInteger.numerals in
    let raw : Bor (List ℕ) → List ℕ = λ name. name.now in
    let lossy : Bor (List ℕ) → List ℕ = λ name. utf8_lossy name.now in
    let setting : Setting g.row.T.Denot = record { names = c.deref-2.result; shown = c.deref-3.result; objects = c.deref-4.result; parties = c.args.group.now.parties } in
    let story = c.in_ok-story_of-in-None.ensures in
    is_story z numerals setting (told c.args.group.now c.args.rest.now) c.args.rest.now (ap (map raw) c.deref-2.ensures.value)
    (ap (map string_bytes) c.deref-3.ensures.value ∙ c.in_ok-shown.ensures ∙ ap (map lossy) c.deref.ensures.value ∙ sym (map-map utf8_lossy raw c.args.group.now.names.items))
    c.deref-4.ensures.value refl c.requires.left refl refl
    _ _ _ _ _ _ _ c.in-None.is c.new-rows.ensures.items (c.in_ok-add_steps.ensures.added [] c.in_ok-room.ensures) (c.in_ok-add_steps.ensures.stands [] c.in_ok-room.ensures) c.deref-in-None-2.ensures.value
    (ap (map string_bytes) c.deref-in-None.ensures.value ∙ c.in_ok-titles.ensures) story.told story.left_out story.parties
    (ap (λ (v : Vec (StoryObject g.row.T.Denot) Global). map object_shown v.items) story.objects ∙ c.in_ok-objects.ensures _ c.in_ok-room.ensures)
    (λ past stands. ap string_bytes story.last ∙ c.in_ok-last-in-None.ensures _ _ past stands)

pub returns-clause-fault : goal.returns-clause-fault
returns-clause-fault g c =
    let z = g.T.AtomicInteger.arithmetic in
    let numerals = g.T.TextInteger.numerals in
    let raw : Bor (List ℕ) → List ℕ = λ name. name.now in
    let lossy : Bor (List ℕ) → List ℕ = λ name. utf8_lossy name.now in
    let setting : Setting g.row.T.Denot = record { names = c.deref-2.result; shown = c.deref-3.result; objects = c.deref-4.result; parties = c.args.group.now.parties } in
    rw c.from.ensures (output_is z numerals setting (told c.args.group.now c.args.rest.now) c.args.rest.now (ap (map raw) c.deref-2.ensures.value)
    (ap (map string_bytes) c.deref-3.ensures.value ∙ c.in_ok-shown.ensures ∙ ap (map lossy) c.deref.ensures.value ∙ sym (map-map utf8_lossy raw c.args.group.now.names.items))
    c.deref-4.ensures.value refl c.requires.left refl refl _ _ _ _ (c.in_ok-add_steps.ensures.added [] c.in_ok-room.ensures) c.in-Some.is)
