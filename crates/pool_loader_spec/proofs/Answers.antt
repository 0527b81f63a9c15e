-- The answer of a pooled load by its four tests: a refusal makes zeros; an accepted pair has passed them all, and tells the repeats
-- of the first file's left records and of both files' right records.
use mathlib.Core.Path.{◌≡◌, refl, sym, ap, ◌∙◌}
use mathlib.Core.List.{List, []}
use mathlib.Core.Bool.{Bool, true, false, not}
use Prim.Native.Nat.{ℕ, ◌+◌}
use native.Mathlib.Omega.{arith}
use lib.ListN.{length}
use Rattle.std.specs.Prelude.{Result, Err, Ok, ⊤}
use Rattle.sets.specs.Refusals.{clears, refuse_if, unless}
use Rattle.sets.specs.declared.Side.TheVariants.{Left, Right}
use Rattle.sets.specs.declared.Refusal.{Refusal}
use Rattle.sets.specs.declared.Refusal.TheVariants.{ShortOutput}
use Rattle.tag_file.specs.declared.Loaded.{Loaded}
use Rattle.tag_file.specs.declared.Repeats.{Repeats}
use Rattle.tag_file.specs.Records.{records}
use Rattle.tag_file.specs.Repeats.{repeats_of}
use Rattle.tag_file.specs.Loading.{Lists, file_fault, filled, room_for, totals_of}
use Rattle.tag_file.proofs.FaultLaws.{fault_clears}
use Rattle.tag_file.proofs.AnswerLaws.{same_load}
use Rattle.pool_loader_spec.specs.Pooling.{pooled_records, pooled_repeats, second_fault, first_overlong, pooled_answer}
use Rattle.pool_loader_spec.proofs.SecondFaults.{second_clears, long_clears}

-- the first that fails decides; whichever it is, it makes zeros
abbrev answer_by : Result ⊤ Refusal → Result ⊤ Refusal → Bool → Result ⊤ Refusal → Result (Loaded × Repeats) Refusal → Result (Loaded × Repeats) Refusal
answer_by fault second room long loaded =
    unless Err fault
    (unless Err second (unless Err (refuse_if (not room) ShortOutput) (unless Err long loaded)))

clears_by : (fault second : Result ⊤ Refusal) (room : Bool) (long : Result ⊤ Refusal) (totals : Loaded) (found : Repeats) (why : Refusal)
    → ((w : Refusal) → fault ≡ Err w → clears w ≡ true) → ((w : Refusal) → second ≡ Err w → clears w ≡ true)
    → ((w : Refusal) → long ≡ Err w → clears w ≡ true)
    → answer_by fault second room long (Ok (totals, found)) ≡ Err why → clears why ≡ true
clears_by (Err w) second room long totals found why a b d e = let same : w ≡ why = cc in ap clears (sym same) ∙ a w refl
clears_by (Ok _) (Err w) room long totals found why a b d e = let same : w ≡ why = cc in ap clears (sym same) ∙ b w refl
clears_by (Ok _) (Ok _) false long totals found why a b d e = let same : ShortOutput ≡ why = cc in ap clears (sym same)
clears_by (Ok _) (Ok _) true (Err w) totals found why a b d e = let same : w ≡ why = cc in ap clears (sym same) ∙ d w refl
clears_by (Ok _) (Ok _) true (Ok _) totals found why a b d e = let z : ◌≡◌ {A = ℕ} 0 1 = cc in absurd (omega arith)

-- what an accepted pair passed
pub record Accepted (first second : List ℕ) (lent : Lists) (total : Loaded) (repeats : Repeats) : Type 0 where
  pub clean : file_fault first ≡ Ok tt
  pub clean_second : second_fault (records first) (length first) second ≡ Ok tt
  pub room : room_for (filled (pooled_records first second)) lent ≡ true
  pub short : first_overlong (records first) (length first) [] (records second) ≡ Ok tt
  pub counts : totals_of (pooled_records first second) ≡ total
  pub repeated : pooled_repeats (records first) (records second) ≡ repeats

accepted_by_lem : (fault second : Result ⊤ Refusal) (room : Bool) (long : Result ⊤ Refusal) (totals total : Loaded) (found repeats : Repeats)
    → answer_by fault second room long (Ok (totals, found)) ≡ Ok (total, repeats)
    → (fault ≡ Ok tt) × (second ≡ Ok tt) × (room ≡ true) × (long ≡ Ok tt) × (totals ≡ total) × (found ≡ repeats)
accepted_by_lem (Err w) second room long totals total found repeats e = let z : ◌≡◌ {A = ℕ} 0 1 = cc in absurd (omega arith)
accepted_by_lem (Ok _) (Err w) room long totals total found repeats e = let z : ◌≡◌ {A = ℕ} 0 1 = cc in absurd (omega arith)
accepted_by_lem (Ok _) (Ok _) false long totals total found repeats e = let z : ◌≡◌ {A = ℕ} 0 1 = cc in absurd (omega arith)
accepted_by_lem (Ok _) (Ok _) true (Err w) totals total found repeats e = let z : ◌≡◌ {A = ℕ} 0 1 = cc in absurd (omega arith)
accepted_by_lem (Ok _) (Ok _) true (Ok _) totals total found repeats e =
    let same = same_load e in
    (refl, refl, refl, refl, same.0, same.1)

module _ (first second : List ℕ) (lent : Lists) where
  pub answer_clears : (why : Refusal) → pooled_answer first second lent ≡ Err why → clears why ≡ true
  unfolding pooled_answer
  answer_clears why e =
      clears_by (file_fault first) (second_fault (records first) (length first) second)
      (room_for (filled (pooled_records first second)) lent) (first_overlong (records first) (length first) [] (records second))
      (totals_of (pooled_records first second)) (pooled_repeats (records first) (records second)) why (fault_clears first)
      (second_clears (records first) (length first) second) (long_clears (records first) (length first) [] (records second)) e

  module _ (total : Loaded) (repeats : Repeats) (e : pooled_answer first second lent ≡ Ok (total, repeats)) where
    pub answer_accepted : Accepted first second lent total repeats
    unfolding pooled_answer
    answer_accepted =
        let parts = accepted_by_lem (file_fault first) (second_fault (records first) (length first) second)
        (room_for (filled (pooled_records first second)) lent) (first_overlong (records first) (length first) [] (records second))
        (totals_of (pooled_records first second)) total (pooled_repeats (records first) (records second)) repeats e in
        record {
          clean = parts.0;
          clean_second = parts.1;
          room = parts.2;
          short = parts.3;
          counts = parts.4;
          repeated = parts.5;
        }

    -- the left repeats are those of the first file's left records
    pub left_repeats : repeats.left ≡ repeats_of Left (records first)
    left_repeats = ap (λ (q : Repeats). q.left) (sym answer_accepted.repeated)

    -- the right repeats are those of both files' right records
    pub right_repeats : repeats.right ≡ repeats_of Right (records first) + repeats_of Right (records second)
    right_repeats = ap (λ (q : Repeats). q.right) (sym answer_accepted.repeated)
