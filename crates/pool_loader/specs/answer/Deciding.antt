-- Inner: the answer of a pooled load by the lists' lengths.
use Rattle.std.specs.Prelude.{◌≡◌, not, Result, Err, Ok, ⊤}
use Rattle.sets.specs.Refusals.{refuse_if, unless}
use Rattle.sets.specs.declared.Refusal.TheVariants.{ShortOutput}
use Rattle.tag_file.specs.declared.Loaded.{Loaded}
use Rattle.tag_file.specs.declared.Repeats.{Repeats}
use Rattle.tag_scan.specs.totals.Totals.{Limited}
use Rattle.tag_loader.specs.declared.lent_lists.LoadRoom.{LoadRoom}
use Rattle.tag_loader.specs.lent_lists.LentLists.{has_room}
use Rattle.sets.specs.declared.Refusal.{Refusal}

-- the answer of the first passes, and then 4 by the lengths of the lists, and then 10
abbrev pub decided : Result (Loaded × Repeats) Refusal → Result ⊤ Refusal → LoadRoom → Result (Loaded × Repeats) Refusal
decided (Err why) long room = Err why
decided (Ok (t, repeats)) long room =
    unless Err (refuse_if (not (has_room t room)) ShortOutput)
    (unless Err long (Ok (t, repeats)))

-- counts, where there are some, are within the limits
abbrev pub LimitedIf : Result (Loaded × Repeats) Refusal → Type 0
LimitedIf answer = (t : Loaded) (repeats : Repeats) → answer ≡ Ok (t, repeats) → Limited t
