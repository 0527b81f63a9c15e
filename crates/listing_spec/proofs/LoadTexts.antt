-- The text of a file that is not too long, by what the loader promises of a call with the program's lists: what it filled, cut to
-- the counts, is what the records fill, its repeats are theirs; and it refuses for a record at fault alone.
use Prim.Native.Nat.{ℕ, ◌≤◌}
use mathlib.Core.Path.{◌≡◌, refl, sym, ap, ap₂, subst, ◌∙◌}
use mathlib.Core.List.{List}
use native.Mathlib.Omega.{arith}
use lib.ListN.{length}
use Rattle.std.specs.Prelude.{Result, Err, Ok, ⊤}
use Rattle.sets.specs.Limits.{max_items}
use Rattle.sets.specs.Refusals.{unless}
use Rattle.sets.specs.declared.Refusal.{Refusal}
use Rattle.sets.specs.declared.Side.TheVariants.{Left, Right}
use Rattle.tag_file.specs.declared.Loaded.{Loaded}
use Rattle.tag_file.specs.declared.Repeats.{Repeats}
use Rattle.tag_file.specs.Records.{records}
use Rattle.tag_file.specs.Loading.{Lists, file_fault, filled, totals_of, load_answer, LoadCall}
use Rattle.tag_file.proofs.ItemCount.{length-numbers_of, length-ends_of, length-flat_items}
use Rattle.tag_file.proofs.AnswerLaws.{accepted, accepts, refuses_fault, room_each}
use Rattle.tag_containment.proofs.LoadedLists.{load_counts, load_repeats, load-filled}
use Rattle.text.specs.Lines.{refusal_line}
use Rattle.inputs.specs.Input.{input_of}
use Rattle.join_text.specs.JoinText.{program_settings, join_text}
use Rattle.join_text.specs.Inner.{text_room}
use Rattle.listing_spec.specs.Listing.{max_file, records_text}
use Rattle.listing_spec.specs.Inner.{Within, cut_text}
use Rattle.listing_spec.proofs.LoadRoom.{ProgramLists, fault_free, never_short}

-- the text of T items and seven lists as a load fills them, with these repeats
abbrev lists_text : Repeats → ℕ → Lists → List ℕ
lists_text repeats T l =
    let i = input_of T l.left_ends l.left_items l.right_ends l.right_items in
    join_text repeats l.left_numbers l.right_numbers i (program_settings i)

-- the text of a file by its first fault
abbrev short_text : List ℕ → List ℕ
short_text file = unless refusal_line (file_fault file) (records_text (records file))

module _ (file : List ℕ) {lent got : Lists} {answer : Result (Loaded × Repeats) Refusal} (call : LoadCall file lent got answer) where
  module _ {loaded : Loaded} {repeats : Repeats} (loads : answer ≡ Ok (loaded, repeats)) where
    loaded_call : LoadCall file lent got (Ok (loaded, repeats))
    loaded_call = subst (λ (a : Result (Loaded × Repeats) Refusal). LoadCall file lent got a) loads call

    pub loaded_text : cut_text loaded repeats got.left_numbers got.left_ends got.left_items got.right_numbers
        got.right_ends got.right_items ≡ short_text file
    loaded_text =
        let clear = (accepted file lent loaded repeats (sym loaded_call.answered)).clear in
        ap₂ (lists_text repeats) (ap (λ (c : Loaded). c.tag_count) (load_counts file loaded_call)) (load-filled file loaded_call)
        ∙ ap (λ (r : Repeats). lists_text r (totals_of (records file)).tag_count (filled (records file)))
        (load_repeats file loaded_call)
        ∙ ap (λ (t : Result ⊤ Refusal). unless refusal_line t (records_text (records file))) (sym clear)

    -- the counts lie within lists as long as those that were lent
    pub loaded_within : (ranks text : List ℕ) → max_items ≤ length ranks → text_room ≤ length text
        → length got.left_numbers ≡ length lent.left_numbers → length got.left_ends ≡ length lent.left_ends
        → length got.left_items ≡ length lent.left_items → length got.right_numbers ≡ length lent.right_numbers
        → length got.right_ends ≡ length lent.right_ends → length got.right_items ≡ length lent.right_items
        → Within loaded got.left_numbers got.left_ends got.left_items got.right_numbers got.right_ends
        got.right_items ranks text
    loaded_within ranks text many room a b c d e f =
        let rs = records file in
        let so = accepted file lent loaded repeats (sym loaded_call.answered) in
        let each = room_each (filled rs) lent so.room in
        let free = fault_free file so.clear in
        subst (λ (l : Loaded). Within l got.left_numbers got.left_ends got.left_items got.right_numbers got.right_ends
        got.right_items ranks text)
        so.counted
        (record {
          few_items = free.tags;
          left_numbered = omega (arith, each.left_numbers, length-numbers_of Left rs, a);
          left_ended = omega (arith, each.left_ends, length-ends_of Left rs, b);
          left_filled = omega (arith, each.left_items, length-flat_items Left rs, c);
          right_numbered = omega (arith, each.right_numbers, length-numbers_of Right rs, d);
          right_ended = omega (arith, each.right_ends, length-ends_of Right rs, e);
          right_filled = omega (arith, each.right_items, length-flat_items Right rs, f);
          ranked = omega (arith, free.tags);
          room = room;
        })

  pub refused_load : {why : Refusal} → answer ≡ Err why → ProgramLists lent → length file ≤ max_file
      → refusal_line why ≡ short_text file
  refused_load {why} e lists short = by_fault (file_fault file) refl
    where
      refused : load_answer file lent ≡ Err why
      refused = sym call.answered ∙ e

      same_refusal : (a b : Refusal) → ◌≡◌ {A = Result (Loaded × Repeats) Refusal} (Err a) (Err b) → a ≡ b
      same_refusal a b e = cc

      apart : {P : Type 0} (l : Loaded) (r : Repeats) → ◌≡◌ {A = Result (Loaded × Repeats) Refusal} (Ok (l, r)) (Err why) → P
      apart l r e = let z : ◌≡◌ {A = ℕ} 0 1 = cc in absurd (omega arith)

      by_fault : (t : Result ⊤ Refusal) → file_fault file ≡ t → refusal_line why ≡ unless refusal_line t (records_text (records file))
      by_fault (Ok _) clear = apart _ _ (sym (accepts file lent clear (never_short file clear lent lists short)) ∙ refused)
      by_fault (Err w) fault =
          ap refusal_line (sym (same_refusal w why (sym (refuses_fault file lent w fault) ∙ refused)))
