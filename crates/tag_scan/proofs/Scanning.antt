-- The first pass over a file: its invariant over the records seen so far, with its start, its three ends and its step.
use mathlib.Core.Path.{◌≡◌, refl, sym, ap, ap₂, subst, ◌∙◌}
use mathlib.Core.List.{List, [], ◌∷◌, ◌++◌, append-nil, append_assoc}
use mathlib.Core.Bool.{true, false}
use Prim.Native.Nat.{ℕ, ◌-◌, ◌<◌, ◌≤◌}
use native.Mathlib.Omega.{arith}
use lib.ListN.{length}
use Rattle.std.specs.Prelude.{Result, Err, Ok, ⊤}
use Rattle.lists.specs.Lists.{keep, sum}
use Rattle.bit_sets.specs.BitSets.{member, Inserted}
use Rattle.sets.specs.Limits.{max_set_length, half_words}
use Rattle.sets.specs.Refusals.{unless}
use Rattle.sets.specs.declared.Side.{Side}
use Rattle.sets.specs.declared.Side.TheVariants.{Left, Right}
use Rattle.sets.specs.declared.Refusal.{Refusal}
use Rattle.sets.specs.declared.Refusal.TheVariants.{NumberUsed, TooMany}
use Rattle.tag_file.specs.declared.Loaded.{Loaded}
use Rattle.tag_file.specs.declared.Repeats.{Repeats}
use Rattle.tag_file.specs.Repeats.{repeats_in, repeat_totals, no_repeats}
use Rattle.tag_file.specs.Reading.{read_at, tags_at}
use Rattle.tag_file.specs.Records.{TagRecord, total_length, records_at, records}
use Rattle.tag_file.specs.Loading.{number_used, too_many, fault_of, first_fault, refusal_of, file_fault, totals_of}
use Rattle.tag_file.specs.declared.ReadAnswer.{ReadAnswer}
use Rattle.tag_file.specs.declared.ReadAnswer.TheVariants.{Record}
use Rattle.tag_file.proofs.RecordLaws.{length-tags_at, read_past, read_within, read_length}
use Rattle.tag_file.proofs.RecordLaws.{records_next, total_length_last}
use Rattle.tag_file.proofs.FaultLaws.{fault_used, fault_none}
use Rattle.tag_file.proofs.RepeatLaws.{repeats_are, repeats_bound}
use Rattle.tag_index.specs.tag_adding.Adding.{Adding, RoomToAdd, AllAdded}
use Rattle.tag_index.proofs.tag_adding.AddLaws.{added_distinct}
use Rattle.tag_scan.specs.used_numbers.Keys.{key_of}
use Rattle.tag_scan.proofs.used_numbers.Numbers.{Noted, noted_step, noted_tells}
use Rattle.tag_scan.specs.totals.Totals.{grown_by, is_over, word_numbers, repeated_by, RepeatsRoom}
use Rattle.tag_scan.proofs.totals.Counting.{grown_repeats}
use Rattle.tag_scan.specs.Scan.{Taken, Scanned}
use Rattle.tag_scan.proofs.Taking.{taken_over, taken_next}
use Rattle.tag_index.specs.declared.TagIndex.{TagIndex}

-- what the reading of a file ends with
abbrev last_refusal : List ℕ → Result ⊤ Refusal
last_refusal file = refusal_of (read_at file (total_length (records file)))

pub record Scanning (file used : List ℕ) (index : TagIndex) (total : Loaded) (repeats : Repeats) (at : ℕ) : Type 0 where
  pub seen : List TagRecord
  pub split : records file ≡ seen ++ records_at file at
  pub place : at ≡ total_length seen
  pub fault : file_fault file ≡ first_fault seen (records_at file at) (last_refusal file)
  pub noted : Noted used seen
  pub taken : Taken seen total index
  pub repeated : repeats ≡ repeat_totals seen

pub scanning_start : (file used : List ℕ) (index : TagIndex) {total : Loaded} → Taken [] total index → Noted used []
    → Scanning file used index total no_repeats 0
unfolding file_fault sum keep
scanning_start file used index {total} taken noted =
    record { seen = []; split = refl; place = refl; fault = refl; noted = noted; taken = taken; repeated = refl }

-- a record that passes a limit
fault_past : (seen : List TagRecord) (r : TagRecord) → number_used seen r ≡ false → too_many r.side (seen ++ (r ∷ [])) ≡ true
    → fault_of seen r ≡ Err (TooMany (total_length seen))
unfolding fault_of
fault_past seen r free past = rw (free, past)

-- a fault is what the file is refused with
scanning_refused : {file : List ℕ} {index : TagIndex} (why : Refusal) → file_fault file ≡ Err why
    → Scanned file index (Err why)
scanning_refused {file} why e = record { answer = rw e; taken = λ n. never (sym e ∙ n) }
  where
    never : {A : Type 0} {w : Refusal} → ◌≡◌ {A = Result ⊤ Refusal} (Err w) (Ok tt) → A
    never e = let z : ◌≡◌ {A = ℕ} 0 1 = cc in absurd (omega arith)

module _ {file used : List ℕ} {index : TagIndex} {total : Loaded} {repeats : Repeats} {at : ℕ}
    (s : Scanning file used index total repeats at) where
  -- the reading ended: there are no records from here on
  pub scanning_stop : (a : ReadAnswer) → read_at file at ≡ a → records_at file at ≡ []
      → Scanned file index (unless Err (refusal_of a) (Ok (total, repeats)))
  unfolding first_fault
  scanning_stop a e stop =
      record {
        answer = ap (λ (t : Result ⊤ Refusal). unless Err t (Ok (total, repeats))) (sym ends)
            ∙ ap₂ (λ (t : Loaded) (q : Repeats). unless Err (file_fault file) (Ok (t, q)))
            (s.taken.counts ∙ ap totals_of (sym all)) (s.repeated ∙ ap repeat_totals (sym all));
        taken = λ n. subst (λ (rs : List TagRecord). Taken rs (totals_of rs) index) (sym all)
            (subst (λ (t : Loaded). Taken s.seen t index) s.taken.counts s.taken);
      }
    where
      all : records file ≡ s.seen
      all = s.split ∙ ap (λ (l : List TagRecord). s.seen ++ l) stop ∙ append-nil s.seen

      ends : file_fault file ≡ refusal_of a
      ends =
          s.fault ∙ ap (λ (l : List TagRecord). first_fault s.seen l (last_refusal file)) stop
          ∙ ap refusal_of (ap (read_at file) (ap total_length all ∙ sym s.place) ∙ e)

  -- the record here: its number was used, it passes a limit, or it is taken in
  module _ {side : Side} {n c p next : ℕ} (e : read_at file at ≡ Record side n c p next) where
    abbrev this : TagRecord
    this = record { side = side; number = n; tags = tags_at c file p }

    here : file_fault file
        ≡ unless Err (fault_of s.seen this) (first_fault (s.seen ++ (this ∷ [])) (records_at file next) (last_refusal file))
    unfolding first_fault
    here =
        s.fault
        ∙ ap (λ (l : List TagRecord). first_fault s.seen l (last_refusal file)) (records_next file at side n c p next e)

    -- what the noted numbers tell of it
    module _ (small : n < half_words) where
      tells : number_used s.seen this ≡ member used (key_of side n)
      tells = sym (noted_tells this small s.noted)

      -- the record's number was used
      pub scanning_used : member used (key_of side n) ≡ true → Scanned file index (Err (NumberUsed at))
      scanning_used t = scanning_refused (NumberUsed at) (here ∙ rw (fault_used s.seen this (tells ∙ t), ← s.place))

    pub scanning_room : c ≤ max_set_length → RoomToAdd file p c total.tag_count 0
    scanning_room few =
        record {
          inside = omega (arith, read_past file at e, read_within file at e);
          room = omega (arith, s.taken.limited.tags);
          count_room = omega arith;
        }

    module _ {tagCount distinct : ℕ} {now-index : TagIndex} {now-marks : List ℕ}
        (added : AllAdded [] file p c total.tag_count index tagCount distinct now-index now-marks) where
      pub distinct_few : {marks : List ℕ} → Adding [] index total.tag_count 0 marks → c ≤ max_set_length
          → distinct ≤ max_set_length
      distinct_few a few = omega (arith, added_distinct a added)

      -- its repeats are those of its tags that are not distinct
      here_repeats : c - distinct ≡ repeats_in (tags_at c file p)
      here_repeats = repeats_are (tags_at c file p) c distinct (length-tags_at c file p) added.adding.counted

      -- they lie in the file with those before
      pub repeats_room : length file < word_numbers → RepeatsRoom repeats (c - distinct)
      repeats_room fits =
          record {
            left = omega (
              arith,
              fits,
              repeats_bound Left s.seen,
              ap (λ (q : Repeats). q.left) s.repeated,
              s.place,
              read_length file at e,
              read_within file at e,
            );
            right = omega (
              arith,
              fits,
              repeats_bound Right s.seen,
              ap (λ (q : Repeats). q.right) s.repeated,
              s.place,
              read_length file at e,
              read_within file at e,
            );
          }

      module _ (small : n < half_words) (free : member used (key_of side n) ≡ false) {now-total : Loaded}
          (grew : now-total ≡ grown_by total side tagCount distinct) where
        -- what the limits say of it
        limit : is_over now-total side ≡ too_many side (s.seen ++ (this ∷ []))
        limit =
            ap (λ (t : Loaded). is_over t side) grew
            ∙ taken_over s.taken this added.adding.sorted added.table added.adding.counted

        -- the record passes a limit
        pub scanning_past : is_over now-total side ≡ true → Scanned file now-index (Err (TooMany at))
        scanning_past t =
            scanning_refused (TooMany at)
            (here ∙ rw (fault_past s.seen this (tells small ∙ free) (sym limit ∙ t), ← s.place))

        pub scanning_next : {now-used : List ℕ} {now-repeats : Repeats} → Inserted used (key_of side n) now-used
            → is_over now-total side ≡ false → now-repeats ≡ repeated_by repeats side (c - distinct)
            → Scanning file now-used now-index now-total now-repeats next
        scanning_next noted few rose =
            record {
              seen = s.seen ++ (this ∷ []);
              split = s.split ∙ ap (λ (l : List TagRecord). s.seen ++ l) (records_next file at side n c p next e)
                  ∙ sym (append_assoc s.seen (this ∷ []) (records_at file next));
              place = omega (arith, total_length_last s.seen this, s.place, length-tags_at c file p, read_length file at e);
              fault = here ∙ rw (fault_none s.seen this (tells small ∙ free) (sym limit ∙ few));
              noted = noted_step this small s.noted noted;
              taken = taken_next s.taken this added.adding.sorted added.table added.adding.counted grew
                  (sym (ap (λ (t : Loaded). is_over t side) grew) ∙ few);
              repeated = rose ∙ ap (λ (q : Repeats). repeated_by q side (c - distinct)) s.repeated
                  ∙ grown_repeats s.seen this (c - distinct) here_repeats;
            }
