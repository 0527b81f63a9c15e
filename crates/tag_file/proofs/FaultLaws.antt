-- The fault of one record, case by case: a used number decides before the limits do. Document 01: "the first record at fault
-- decides, by 1, 2, 3". And every fault of a file makes zeros of the lists.
use Prim.Native.Nat.{ℕ}
use mathlib.Core.Path.{◌≡◌, refl, sym, ap, ◌∙◌}
use mathlib.Core.List.{List, [], ◌∷◌, ◌++◌}
use mathlib.Core.Bool.{Bool, true, false}
use Rattle.std.specs.Prelude.{Result, Err, Ok, ⊤}
use Rattle.sets.specs.Refusals.{clears, refuse_if, unless}
use Rattle.sets.proofs.Testing.{both_passed, refuse_passed}
use Rattle.sets.specs.declared.Refusal.{Refusal}
use Rattle.sets.specs.declared.Refusal.TheVariants.{NumberUsed, TooMany}
use Rattle.tag_file.specs.Reading.{read_at}
use Rattle.tag_file.specs.Records.{TagRecord, total_length, records}
use Rattle.tag_file.specs.Loading.{number_used, too_many, fault_of, first_fault, refusal_of, file_fault}
use Rattle.tag_file.specs.declared.ReadAnswer.{ReadAnswer}
use Rattle.tag_file.specs.declared.ReadAnswer.TheVariants.{Record, NoMore, Refused}
use Rattle.tag_file.proofs.ReadLaws.{read_refused}

module _ (seen : List TagRecord) (r : TagRecord) where
  pub fault_used : number_used seen r ≡ true → fault_of seen r ≡ Err (NumberUsed (total_length seen))
  unfolding fault_of
  fault_used used = rw used

  pub fault_none : number_used seen r ≡ false → too_many r.side (seen ++ (r ∷ [])) ≡ false → fault_of seen r ≡ Ok tt
  unfolding fault_of
  fault_none free few = rw (free, few)

  pub fault_clear : fault_of seen r ≡ Ok tt → (number_used seen r ≡ false) × (too_many r.side (seen ++ (r ∷ [])) ≡ false)
  unfolding fault_of
  fault_clear e =
      let used = refuse_if (number_used seen r) (NumberUsed (total_length seen)) in
      let many = refuse_if (too_many r.side (seen ++ (r ∷ []))) (TooMany (total_length seen)) in
      let both = both_passed used many e in (
        refuse_passed (number_used seen r) (NumberUsed (total_length seen)) both.0,
        refuse_passed (too_many r.side (seen ++ (r ∷ []))) (TooMany (total_length seen)) both.1,
      )

-- ---- a fault makes zeros

-- whether what a test refuses with, if anything, makes zeros
abbrev pub clearing : Result ⊤ Refusal → Bool
clearing (Ok _) = true
clearing (Err why) = clears why

pub clearing_both : (first later : Result ⊤ Refusal) → clearing first ≡ true → clearing later ≡ true → clearing (unless Err first later) ≡ true
clearing_both (Ok _) later a b = b
clearing_both (Err why) later a b = a

pub clearing_if : (wrong : Bool) (why : Refusal) → clears why ≡ true → clearing (refuse_if wrong why) ≡ true
clearing_if true why c = c
clearing_if false why c = refl

clearing_read : (file : List ℕ) (at : ℕ) → clearing (refusal_of (read_at file at)) ≡ true
clearing_read file at = by_answer (read_at file at) refl
  where
    by_answer : (a : ReadAnswer) → read_at file at ≡ a → clearing (refusal_of a) ≡ true
    by_answer (Record s n c p next) e = refl
    by_answer NoMore e = refl
    by_answer (Refused why) e = ap clears (read_refused file at why e)

clearing_first : (seen rs : List TagRecord) (last : Result ⊤ Refusal) → clearing last ≡ true → clearing (first_fault seen rs last) ≡ true
unfolding first_fault fault_of
clearing_first seen [] last c = c
clearing_first seen (r ∷ rs) last c =
    let used = refuse_if (number_used seen r) (NumberUsed (total_length seen)) in
    let many = refuse_if (too_many r.side (seen ++ (r ∷ []))) (TooMany (total_length seen)) in
    clearing_both (unless Err used many) (first_fault (seen ++ (r ∷ [])) rs last)
    (clearing_both used many (clearing_if (number_used seen r) _ refl) (clearing_if (too_many r.side (seen ++ (r ∷ []))) _ refl))
    (clearing_first (seen ++ (r ∷ [])) rs last c)

pub fault_clears : (file : List ℕ) (why : Refusal) → file_fault file ≡ Err why → clears why ≡ true
unfolding file_fault
fault_clears file why e =
    sym (ap clearing e)
    ∙ clearing_first [] (records file) (refusal_of (read_at file (total_length (records file))))
    (clearing_read file (total_length (records file)))
