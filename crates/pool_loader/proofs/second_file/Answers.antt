-- The answer of a pooled load: the first file's fault, or what the second file and the lengths of the lists say.
use mathlib.Core.Path.{◌≡◌, refl, sym, ap, ap₂, subst, ◌∙◌}
use mathlib.Core.List.{List, []}
use mathlib.Core.Bool.{Bool, not}
use Prim.Native.Nat.{ℕ}
use native.Mathlib.Omega.{arith}
use lib.ListN.{length}
use Rattle.std.specs.Prelude.{Result, Err, Ok, ⊤}
use Rattle.sets.specs.Refusals.{refuse_if, unless}
use Rattle.sets.specs.declared.Refusal.{Refusal}
use Rattle.sets.specs.declared.Refusal.TheVariants.{ShortOutput}
use Rattle.tag_file.specs.declared.Loaded.{Loaded}
use Rattle.tag_file.specs.declared.Repeats.{Repeats}
use Rattle.tag_file.specs.Records.{records}
use Rattle.tag_file.specs.Repeats.{repeat_totals}
use Rattle.tag_file.specs.Loading.{Lists, file_fault, totals_of}
use Rattle.tag_file.proofs.AnswerLaws.{tested_refused, tested_loaded}
use Rattle.pool_loader_spec.specs.Pooling.{pooled_records, pooled_repeats, second_fault, first_overlong, pooled_answer}
use Rattle.pool_loader_spec.proofs.Answers.{answer_accepted}
use Rattle.tag_scan.specs.totals.Totals.{Limited}
use Rattle.tag_scan.specs.Scan.{Taken, Scanned}
use Rattle.tag_loader.specs.declared.lent_lists.LoadRoom.{LoadRoom}
use Rattle.tag_loader.specs.lent_lists.LentLists.{room_in}
use Rattle.tag_loader.proofs.Rooms.{room_counted}
use Rattle.pool_scan.specs.right_slots.Slots.{NumbersNoted, BlocksCounted}
use Rattle.pool_loader.specs.answer.Deciding.{decided, LimitedIf}
use Rattle.pool_scan.specs.declared.counting.Second.{Second}
use Rattle.pool_scan.specs.Second.{SecondScanned}
use Rattle.pool_loader.specs.second_file.Judging.{PoolFillable, PoolDecided}
use Rattle.tag_index.specs.declared.TagIndex.{TagIndex}

-- ---- the first file

-- it has no fault, was taken in, and its repeats are counted
pub record FirstTaken (first : List ℕ) (total : Loaded) (repeats : Repeats) (index : TagIndex) : Type 0 where
  pub clean : file_fault first ≡ Ok tt
  pub taken : Taken (records first) total index
  pub repeated : repeats ≡ repeat_totals (records first)

pub first_taken : (first : List ℕ) {index : TagIndex} {r : Result (Loaded × Repeats) Refusal} (total : Loaded) (repeats : Repeats)
    → Scanned first index r → r ≡ Ok (total, repeats) → FirstTaken first total repeats index
first_taken first {index} total repeats s e =
    let parts =
    tested_loaded (file_fault first) (totals_of (records first)) (repeat_totals (records first)) total repeats (sym s.answer ∙ e) in
    record {
      clean = parts.0;
      taken = subst (λ (t : Loaded). Taken (records first) t index) (sym parts.1) (s.taken parts.0);
      repeated = parts.2;
    }

module _ (first second : List ℕ) (lent : Lists) where
  answer_fault : (why : Refusal) → file_fault first ≡ Err why → pooled_answer first second lent ≡ Err why
  unfolding pooled_answer
  answer_fault why e = rw e

  -- its fault is the answer
  pub first_refused : {index : TagIndex} {used counts slots : List ℕ} {r : Result (Loaded × Repeats) Refusal} (why : Refusal)
      → Scanned first index r → r ≡ Err why
      → PoolDecided first second index used counts slots lent r
  first_refused why s e =
      record {
        answered = e ∙ sym (answer_fault why (tested_refused (file_fault first) (totals_of (records first))
            (repeat_totals (records first)) why (sym s.answer ∙ e)));
        fillable = λ total repeats told. let z : ◌≡◌ {A = ℕ} 0 1 = cc in absurd (omega arith);
      }

-- ---- the second file

module _ (first second : List ℕ) {index : TagIndex} {used slots : List ℕ} {r : Second} (clean : file_fault first ≡ Ok tt)
    (s : SecondScanned first second index used slots r) where
  pub second_limited : LimitedIf r.answer
  second_limited t repeats e =
      let parts = tested_loaded (second_fault (records first) (length first) second) (totals_of (pooled_records first second))
      (pooled_repeats (records first) (records second)) t repeats (sym s.answer ∙ e) in
      subst (λ (q : Loaded). Limited q) (sym parts.1) (s.taken parts.0).limited

  module _ (lent : Lists) where
    pub decided_is : decided r.answer r.long (room_in lent) ≡ pooled_answer first second lent
    unfolding pooled_answer
    decided_is = by_fault (second_fault (records first) (length first) second) refl
      where
        by_fault : (t : Result ⊤ Refusal) → second_fault (records first) (length first) second ≡ t
            → decided r.answer r.long (room_in lent) ≡ pooled_answer first second lent
        by_fault (Err why) e =
            let is : r.answer ≡ Err why = s.answer ∙ rw e in
            ap (λ (a : Result (Loaded × Repeats) Refusal). decided a r.long (room_in lent)) is ∙ rw (clean, e)
        by_fault (Ok _) e =
            let totals = totals_of (pooled_records first second) in
            let repeats = pooled_repeats (records first) (records second) in
            let is : r.answer ≡ Ok (totals, repeats) = s.answer ∙ rw e in
            ap₂ (λ (a : Result (Loaded × Repeats) Refusal) (t : Result ⊤ Refusal). decided a t (room_in lent)) is (s.long e)
            ∙ ap (λ (b : Bool). unless Err (refuse_if (not b) ShortOutput)
            (unless Err (first_overlong (records first) (length first) [] (records second)) (Ok (totals, repeats))))
            (room_counted (pooled_records first second) lent)
            ∙ rw (clean, e)

    pub pool_fillable : {counts : List ℕ} (total : Loaded) (repeats : Repeats) → NumbersNoted (records first) used
        → BlocksCounted used counts → pooled_answer first second lent ≡ Ok (total, repeats)
        → PoolFillable first second index total.tag_count used counts slots lent
    pool_fillable total repeats noted counted e =
        let a = answer_accepted first second lent total repeats e in
        record {
          clean = clean;
          clean_second = a.clean_second;
          taken = s.taken a.clean_second;
          count = sym (ap (λ (t : Loaded). t.tag_count) a.counts);
          room = a.room;
          noted = noted;
          counted = counted;
          size = s.size;
          words = s.words a.clean_second;
        }

    -- what is decided by the lengths of the lists is decided for them
    pub second_decided : {counts : List ℕ} {answer : Result (Loaded × Repeats) Refusal} {room : LoadRoom} → NumbersNoted (records first) used
        → BlocksCounted used counts → room ≡ room_in lent → answer ≡ decided r.answer r.long room
        → PoolDecided first second index used counts slots lent answer
    second_decided {answer = answer} noted counted same told =
        let is : answer ≡ pooled_answer first second lent =
        told ∙ ap (decided r.answer r.long) same ∙ decided_is in
        record { answered = is; fillable = λ total repeats e. pool_fillable total repeats noted counted (sym is ∙ e) }
