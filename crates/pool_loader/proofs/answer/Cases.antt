-- The answer by the lengths of the lists, case by case.
use mathlib.Core.Path.{◌≡◌, sym, ◌∙◌}
use mathlib.Core.Bool.{Bool, true, false, not}
use borrow.Author.Tests.{not-true, not-false}
use Rattle.std.specs.Prelude.{Result, Err, Ok, ⊤}
use Rattle.sets.specs.declared.Refusal.{Refusal}
use Rattle.sets.specs.declared.Refusal.TheVariants.{ShortOutput}
use Rattle.tag_file.specs.declared.Loaded.{Loaded}
use Rattle.tag_file.specs.declared.Repeats.{Repeats}
use Rattle.tag_loader.specs.declared.lent_lists.LoadRoom.{LoadRoom}
use Rattle.tag_loader.specs.lent_lists.LentLists.{has_room}
use Rattle.pool_loader.specs.answer.Deciding.{decided}

pub decided_first : (answer : Result (Loaded × Repeats) Refusal) (long : Result ⊤ Refusal) (room : LoadRoom) {why : Refusal}
    → answer ≡ Err why → Err why ≡ decided answer long room
decided_first answer long room e = rw e

module _ (answer : Result (Loaded × Repeats) Refusal) (long : Result ⊤ Refusal) (room : LoadRoom) {t : Loaded} {repeats : Repeats}
    (is : answer ≡ Ok (t, repeats)) {b : Bool} (told : b ≡ has_room t room) where
  abbrev here : Result (Loaded × Repeats) Refusal
  here = decided answer long room

  pub decided_short : not b ≡ true → Err ShortOutput ≡ here
  decided_short f =
      let short : has_room t room ≡ false = sym told ∙ not-true b f in
      rw (is, short)

  module _ (enough : not b ≡ false) where
    room_is : has_room t room ≡ true
    room_is = sym told ∙ not-false b enough

    pub decided_long : {why : Refusal} → long ≡ Err why → Err why ≡ here
    decided_long e = rw (is, room_is, e)

    pub decided_loaded : long ≡ Ok tt → Ok (t, repeats) ≡ here
    decided_loaded e = rw (is, room_is, e)
