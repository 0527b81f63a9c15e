-- What is demanded of the whole, in three parts, each law with its sentence above it. A call is what an operation's contract promises
-- of it: `RunCall`, `OrderCall`, `LoadCall`, `PooledCall` and `WriteCall`, the answers `first_answer` and `record_read`, and of the
-- exported join `NumberedCall`, the two clauses of `kitfinder_join`. A kit is a left set, a stack a right set, the allowance the budget.
--
-- Demand 1: the definitions decide the answer of each operation and what every lent list holds afterwards, refusals included.
-- Demand 2: what was loaded comes back from a file that is written, and a run over it lists the pairs of records by their tags.
-- Demand 3: no setting decides which kits are found, and every number that returns is tied to its definition.
use Prim.Native.Nat.{ℕ, ◌+◌, ◌*◌, ◌<◌, ◌≤◌}
use mathlib.Core.Path.{◌≡◌, refl, sym, ap, subst, ◌∙◌}
use mathlib.Core.Logic.{◌↔◌}
use mathlib.Core.List.{List, [], ◌∷◌}
use mathlib.Core.Bool.{Bool, true, not}
use native.Mathlib.Omega.{arith}
use lib.Dec.{ltb}
use lib.ListN.{length, get_or, take}
use Rattle.std.specs.Prelude.{None, Some, is_some, Result, Err, Ok, ⊤}
use Rattle.lists.specs.Lists.{one}
use Rattle.sets.specs.Collections.{Collection, sets_in, entries}
use Rattle.sets.specs.Refusals.{row_of}
use Rattle.sets.specs.declared.Refusal.{Refusal}
use Rattle.sets.specs.declared.Refusal.TheVariants.{BadSettings}
use Rattle.inputs.specs.Input.{Input, left_sets, right_sets}
use Rattle.inputs.specs.Tests.{items_test, sets_test}
use Rattle.item_order_spec.specs.Order.{rank_table, order_test, ranks_after, order_ranks, order_words, OrderCall}
use Rattle.item_order_spec.proofs.Answers.{call_ordered}
use Rattle.join_spec.specs.declared.Counts.{Counts}
use Rattle.join_spec.specs.declared.Weights.{Weights}
use Rattle.join_spec.specs.PairList.{pair_list}
use Rattle.join_spec.proofs.PairListLaws.{pair_occurs}
use Rattle.join_spec.specs.Query.{Settings, settings_of, query_of}
use Rattle.join_spec.specs.Counting.{counts_of}
use Rattle.join_spec.specs.Answer.{room_of, join_tests, pairs_after, work_kept, join_words, RunCall}
use Rattle.join.specs.Numbered.{rule_of, numbered_answer}
use Rattle.join_spec.proofs.Calls as calls
use Rattle.join_laws.proofs.EmptyLefts.{without_empty}
use Rattle.join_laws.proofs.EmptyLefts as empties
use Rattle.first_search_spec.specs.declared.Search.{Search}
use Rattle.first_search_spec.specs.First.{first_contained, first_test, first_answer, first_words}
use Rattle.first_search_spec.proofs.FirstTests.{first_searched}
use Rattle.first_search_laws.proofs.Beside as beside
use Rattle.tag_file.specs.declared.Loaded.{Loaded}
use Rattle.tag_file.specs.declared.Repeats.{Repeats}
use Rattle.tag_file.specs.declared.ReadAnswer.{ReadAnswer}
use Rattle.tag_file.specs.declared.ReadAnswer.TheVariants as read
use Rattle.tag_file.specs.Format.{head_length, tag_length}
use Rattle.tag_file.specs.Reading.{read_at}
use Rattle.tag_file.specs.Records.{records}
use Rattle.tag_file.specs.Repeats.{repeat_totals, repeats_read, record_read}
use Rattle.tag_file.specs.Loading.{Lists, file_fault, filled, room_for, totals_of, lists_by, LoadCall}
use Rattle.tag_file.specs.answers.Words.{words_read, read_words, load_words}
use Rattle.tag_file.proofs.AnswerLaws.{accepts, call_lists}
use Rattle.tag_writer_spec.specs.Writer.{file_bytes, lists_test, file_after, write_words, WriteCall}
use Rattle.tag_writer_spec.proofs.Tests.{lists_passed}
use Rattle.tag_writer_spec.proofs.Answers.{left_size, right_size, file_size, within, answer_passed}
use Rattle.tag_round_trip.specs.Trips.{parts_of}
use Rattle.pool_loader_spec.specs.Pooling.{second_fault, first_overlong, pooled_repeats, pooled_records, pooled_answer, PooledCall}
use Rattle.pool_loader_spec.proofs.EmptyFiles.{call_nil, nil_call}
use Rattle.tag_containment.proofs.ByteOrder.{AreBytes}
use Rattle.tag_containment.proofs.LoadedLists.{OverLoaded}
use Rattle.tag_containment.proofs.LoadedPairs.{tags_contained, loaded_pairs}
use Rattle.pool_loader_laws.proofs.AcceptedPair.{pooled_lists_lem}
use Rattle.pool_loader_laws.proofs.PooledPairs.{tags_pooled}
use Rattle.pool_loader_laws.proofs.PooledPairs as pairs
use Rattle.demands.specs.Refusing.{RefusedBy, seven_lists}
use Rattle.demands.specs.Finding.{SameSets, filled_part, Finds, Settled, number_told, counts_told}
use Rattle.demands.specs.Numbered.{NumberedCall}
use Rattle.demands.specs.Trips.{TripCalls}
use Rattle.demands.proofs.Numbers.{joined_told, answer_settled, refused_early}
use Rattle.demands.proofs.ByNumber.{number_above, number_run}
use Rattle.demands.proofs.Alike.{alike_count, alike_pairs}
use Rattle.demands.proofs.LoadedTests as tests
use Rattle.demands.proofs.RoundTrip.{bytes_low, calls_trip, pooled_calls_trip, pooled_filled_tests}

-- ---- demand 1

-- Two calls with the same arguments and lent lists have the same answer, and leave the same lists. `find_first` and `read_record` fill no
-- list: that their answer is `first_answer` and `record_read` is the whole of their contract.
pub run_decided : (i : Input) (s : Settings) {work before v after v' after' : List ℕ} {r r' : Result Counts Refusal}
    → RunCall i s work before v after r → RunCall i s work before v' after' r' → (r ≡ r') × (after ≡ after')
run_decided i s {before = before} a b =
    let same = a.answer ∙ sym b.answer in
    (same, a.pairs ∙ ap (λ (r : Result Counts Refusal). pairs_after r (pair_list (left_sets i) (right_sets i)) before) same ∙ sym b.pairs)

pub order_decided : (i : Input) (falling : Bool) {before after after' : List ℕ} {r r' : Result ⊤ Refusal}
    → OrderCall i falling before after r → OrderCall i falling before after' r' → (r ≡ r') × (after ≡ after')
order_decided i falling a b = (a.answered ∙ sym b.answered, a.ranks ∙ sym b.ranks)

pub load_decided : (file : List ℕ) {before after after' : Lists} {r r' : Result (Loaded × Repeats) Refusal}
    → LoadCall file before after r → LoadCall file before after' r' → (r ≡ r') × (after ≡ after')
load_decided file a b = (a.answered ∙ sym b.answered, call_lists a ∙ sym (call_lists b))

pub pooled_decided : (first second : List ℕ) {before after after' : Lists} {r r' : Result (Loaded × Repeats) Refusal}
    → PooledCall first second before after r → PooledCall first second before after' r' → (r ≡ r') × (after ≡ after')
pooled_decided first second a b = (a.answered ∙ sym b.answered, pooled_lists_lem a ∙ sym (pooled_lists_lem b))

pub write_decided : (T : ℕ) (l : Lists) {before after after' : List ℕ} {r r' : Result ℕ Refusal}
    → WriteCall T l before after r → WriteCall T l before after' r' → (r ≡ r') × (after ≡ after')
write_decided T l a b = (a.answered ∙ sym b.answered, a.file ∙ sym b.file)

-- The work list is the sole undecided result: its length stays, and after every refusal but 8 and 9 its content does too.
pub run_work : (i : Input) (s : Settings) {work before work' after : List ℕ} {r : Result Counts Refusal} → RunCall i s work before work' after r
    → (length work' ≡ length work)
    × ((why : Refusal) → r ≡ Err why → ((row_of why).number ≡ 8 → ⊥) → ((row_of why).number ≡ 9 → ⊥) → work' ≡ work)
run_work i s {work} {before} call = (
  call.work_size,
  λ why is not_spent not_short.
      let keeps = refused_early i s (room_of work before) (sym call.answer ∙ is) not_spent not_short in
      call.work_kept_lem (ap work_kept is ∙ ap not keeps),
)

-- A refused call of each operation, by the row of its refusal in the table: the row's number and details return, every value is zero,
-- and each list that was lent to be filled is zeros or as before, as the row says.
module _ (why : Refusal) where
  pub run_refused : (i : Input) (s : Settings) {work before work' after : List ℕ} → RunCall i s work before work' after (Err why)
      → RefusedBy (row_of why) 6 (join_words (Err why)) (before ∷ []) (after ∷ [])
  run_refused i s call = record { told = refl; left = ap (λ (l : List ℕ). l ∷ []) call.pairs }

  pub first_refused : (T : ℕ) (left : Collection) (right : List ℕ) → first_answer T left right ≡ Err why
      → RefusedBy (row_of why) 3 (first_words (first_answer T left right)) [] []
  first_refused T left right is = record { told = ap first_words is; left = refl }

  pub order_refused : (i : Input) (falling : Bool) {before after : List ℕ} → OrderCall i falling before after (Err why)
      → RefusedBy (row_of why) 0 (order_words (Err why)) (before ∷ []) (after ∷ [])
  unfolding order_ranks
  order_refused i falling {before} call =
      let by : Result ⊤ Refusal → List ℕ = λ a. ranks_after a (rank_table falling i.T (left_sets i) (right_sets i)) before in
      record { told = refl; left = ap (λ (l : List ℕ). l ∷ []) (call.ranks ∙ ap by (sym call.answered)) }

  pub load_refused : (file : List ℕ) {before after : Lists} → LoadCall file before after (Err why)
      → RefusedBy (row_of why) 7 (load_words (Err why)) (seven_lists before) (seven_lists after)
  load_refused file {before} call =
      let by : Result (Loaded × Repeats) Refusal → Lists = λ a. lists_by a (filled (records file)) before in
      record { told = refl; left = ap seven_lists (call_lists call ∙ ap by (sym call.answered)) }

  pub pooled_refused : (first second : List ℕ) {before after : Lists} → PooledCall first second before after (Err why)
      → RefusedBy (row_of why) 7 (load_words (Err why)) (seven_lists before) (seven_lists after)
  pooled_refused first second {before} call =
      let by : Result (Loaded × Repeats) Refusal → Lists = λ a. lists_by a (filled (pooled_records first second)) before in
      record { told = refl; left = ap seven_lists (pooled_lists_lem call ∙ ap by (sym call.answered)) }

  pub write_refused : (T : ℕ) (l : Lists) {before after : List ℕ} → WriteCall T l before after (Err why)
      → RefusedBy (row_of why) 1 (write_words (Err why)) (before ∷ []) (after ∷ [])
  write_refused T l {before} call =
      let by : Result ℕ Refusal → List ℕ = λ a. file_after a (file_bytes l) before in
      record { told = refl; left = ap (λ (f : List ℕ). f ∷ []) (call.file ∙ ap by (sym call.answered)) }

  pub read_refused : (file : List ℕ) (at : ℕ) → read_at file at ≡ read.Refused why
      → RefusedBy (row_of why) 7 (read_words (record_read file at)) [] []
  read_refused file at is = record { told = ap (λ (a : ReadAnswer). words_read a (repeats_read file a)) is; left = refl }

  -- the exported join, whose rule is a number
  pub export_refused : (i : Input) (limit : ℕ) (ranks : List ℕ) (budget number : ℕ) (weights : Weights)
      {work before work' after words : List ℕ} → NumberedCall i limit ranks budget number weights work before work' after words
      → numbered_answer i limit ranks budget number weights (room_of work before) ≡ Err why
      → RefusedBy (row_of why) 6 words (before ∷ []) (after ∷ [])
  export_refused i limit ranks budget number weights {before = before} call is =
      let by : Result Counts Refusal → List ℕ = λ a. pairs_after a (pair_list (left_sets i) (right_sets i)) before in
      record { told = call.told ∙ ap join_words is; left = ap (λ (l : List ℕ). l ∷ []) (call.lists.pairs ∙ ap by is) }

-- A rule number above 2 is a bad setting, before anything else is tested.
pub export_number : (i : Input) (limit : ℕ) (ranks : List ℕ) (budget number : ℕ) (weights : Weights)
    {work before work' after words : List ℕ} → NumberedCall i limit ranks budget number weights work before work' after words
    → 2 < number → RefusedBy (row_of BadSettings) 6 words (before ∷ []) (after ∷ [])
export_number i limit ranks budget number weights {work} {before} call high =
    export_refused BadSettings i limit ranks budget number weights call
    (number_above i limit ranks budget number weights work before high)

-- A call without a cause of the table is accepted, with what its definition says. Of the run this is `run_settled` below.
pub first_accepted : (T : ℕ) (left : Collection) (right : List ℕ) → first_test T left right ≡ Ok tt
    → first_answer T left right ≡ Ok (first_contained (sets_in left) right)
first_accepted T left right passed = sym (first_searched T left right passed)

pub order_accepted : (i : Input) (falling : Bool) {before after : List ℕ} {r : Result ⊤ Refusal} → OrderCall i falling before after r
    → order_test i (length before) ≡ Ok tt → (r ≡ Ok tt) × (after ≡ rank_table falling i.T (left_sets i) (right_sets i))
order_accepted i falling {before} {after} call passed =
    order_decided i falling call (call_ordered i falling before _ passed refl)

pub load_accepted : (file : List ℕ) {before after : Lists} {r : Result (Loaded × Repeats) Refusal} → LoadCall file before after r
    → file_fault file ≡ Ok tt → room_for (filled (records file)) before ≡ true
    → r ≡ Ok ((totals_of (records file)), (repeat_totals (records file)))
load_accepted file {before} call clear room = call.answered ∙ accepts file before clear room

pub pooled_accepted : (first second : List ℕ) {before after : Lists} {r : Result (Loaded × Repeats) Refusal} → PooledCall first second before after r
    → file_fault first ≡ Ok tt → second_fault (records first) (length first) second ≡ Ok tt
    → room_for (filled (pooled_records first second)) before ≡ true
    → first_overlong (records first) (length first) [] (records second) ≡ Ok tt
    → r ≡ Ok ((totals_of (pooled_records first second)), (pooled_repeats (records first) (records second)))
unfolding pooled_answer
pooled_accepted first second call clear clear' room few = call.answered ∙ rw (clear, clear', room, few)

pub write_accepted : (T : ℕ) (l : Lists) {before after : List ℕ} {r : Result ℕ Refusal} → WriteCall T l before after r
    → lists_test T l ≡ Ok tt → length (file_bytes l) ≤ length before → r ≡ Ok (length (file_bytes l))
write_accepted T l {before} call passed room =
    call.answered ∙ sym (within (length before) (file_bytes l) _ refl room ∙ answer_passed T l (length before) passed)

-- The file that is written has 5 bytes for each set and 12 for each item entry.
pub write_length : (T : ℕ) (l : Lists) → lists_test T l ≡ Ok tt
    → length (file_bytes l)
    ≡ head_length * (length l.left_ends + length l.right_ends) + tag_length * (entries l.left_ends + entries l.right_ends)
write_length T l passed =
    let so = lists_passed T l passed in
    file_size l so ∙ omega (arith, left_size l so, right_size l so)

-- ---- demand 2

-- A load that is accepted, of a file whose numbers are bytes.
module _ (file : List ℕ) (bytes : AreBytes file) {lent got : Lists} {counts : Loaded} {repeats : Repeats}
    (loads : LoadCall file lent got (Ok (counts, repeats))) where
  -- The writer takes what it filled: with room for the file it writes the file, and every load of that into lists that are long enough
  -- gives the same counts, no repeats, and the same lists.
  pub load_write_load : (out wrote : List ℕ) (answer : Result ℕ Refusal)
      → WriteCall counts.tag_count (parts_of counts got) out wrote answer
      → length (file_bytes (parts_of counts got)) ≤ length out → TripCalls counts (parts_of counts got) wrote answer
  load_write_load = calls_trip file (bytes_low file bytes) loads

  -- What it filled passes the run's tests of T and of the sets.
  pub load_tests : (i : Input) → OverLoaded counts got i → i.T ≡ counts.tag_count
      → (items_test i.T ≡ Ok tt) × (sets_test i ≡ Ok tt)
  load_tests = tests.load_tests file (bytes_low file bytes) loads

-- A load and a run over what it filled, both accepted: a pair of records is listed once where the kit's record has a tag and every tag of
-- it is in the stack's, else not at all. Here the file may hold any numbers.
pub load_pairs : (file : List ℕ) {lent got : Lists} {loaded : Loaded} {repeats : Repeats}
    → LoadCall file lent got (Ok (loaded, repeats)) → (i : Input) → OverLoaded loaded got i → (s : Settings) {counts : Counts}
    {work before work' after : List ℕ} → RunCall i s work before work' after (Ok counts)
    → (l r : ℕ) → pair_occurs l r (filled_part counts.pairs after) ≡ one (tags_contained (records file) l r)
load_pairs file loads i over s runs = loaded_pairs file loads i over s runs

-- A pooled load with an empty second file is a load of the first.
pub pooled_alone : (file : List ℕ) {before after : Lists} {answer : Result (Loaded × Repeats) Refusal}
    → PooledCall file [] before after answer ↔ LoadCall file before after answer
pooled_alone file = (call_nil file, nil_call file)

-- The same two laws of a pooled load that is accepted, of two files whose numbers are bytes.
module _ (first second : List ℕ) (bytes : AreBytes first) (bytes' : AreBytes second) {lent got : Lists} {counts : Loaded}
    {repeats : Repeats} (pools : PooledCall first second lent got (Ok (counts, repeats))) where
  pub pooled_write_load : (out wrote : List ℕ) (answer : Result ℕ Refusal)
      → WriteCall counts.tag_count (parts_of counts got) out wrote answer
      → length (file_bytes (parts_of counts got)) ≤ length out → TripCalls counts (parts_of counts got) wrote answer
  pooled_write_load = pooled_calls_trip first second (bytes_low first bytes) (bytes_low second bytes') pools

  pub pooled_tests : (i : Input) → OverLoaded counts got i → i.T ≡ counts.tag_count
      → (items_test i.T ≡ Ok tt) × (sets_test i ≡ Ok tt)
  pooled_tests = pooled_filled_tests first second (bytes_low first bytes) (bytes_low second bytes') pools

-- A kit and a borrower are listed once where the kit's record has a tag and every tag of it lies on one of the two pads, else not at all.
pub pooled_pairs : (first second : List ℕ) {lent got : Lists} {loaded : Loaded} {repeats : Repeats}
    → PooledCall first second lent got (Ok (loaded, repeats)) → (i : Input) → OverLoaded loaded got i → (s : Settings)
    {counts : Counts} {work before work' after : List ℕ} → RunCall i s work before work' after (Ok counts)
    → (l r : ℕ) → pair_occurs l r (filled_part counts.pairs after) ≡ one (tags_pooled (records first) (records second) l r)
pooled_pairs first second pools i over s runs = pairs.pooled_pairs first second pools i over s runs

-- ---- demand 3

-- An accepted run finds each contained pair once and nothing else, rising; beyond them its list is as before; every count is its
-- definition's, pairs = by path + confirmed, checks = dropped + false + confirmed, and checks are at most kits × stacks.
pub run_finds : (i : Input) (s : Settings) {counts : Counts} {work before work' after : List ℕ}
    → RunCall i s work before work' after (Ok counts) → Finds i s counts before after
run_finds i s call =
    record {
      once = calls.call_once i s call;
      rising = calls.call_rising i s call;
      beyond = calls.call_rest i s call;
      counted = calls.call_counts i s call;
      met = calls.call_pairs i s call;
      ended = calls.call_checks i s call;
      few = calls.call_product i s call;
    }

-- No setting decides which kits are found: any two accepted runs over collections with equal sets, whatever their T, limits, ranks,
-- allowances, rules, weights and lent lists, have equally many pairs and equal filled parts.
pub runs_alike : (i i' : Input) → SameSets i i' → (s s' : Settings) {counts counts' : Counts}
    {work before v after work' before' v' after' : List ℕ} → RunCall i s work before v after (Ok counts)
    → RunCall i' s' work' before' v' after' (Ok counts')
    → (counts.pairs ≡ counts'.pairs) × (filled_part counts.pairs after ≡ filled_part counts'.pairs after')
runs_alike i i' same s s' a b = (
  alike_count i i' same.lefts same.rights s s' a b,
  alike_pairs i i' same.lefts same.rights s s' a b,
)

-- Where nothing before the walk is at fault a run is refused as spent exactly when its sum of checks is above the allowance, and
-- otherwise accepted exactly when the places suffice.
pub run_settled : (i : Input) (s : Settings) {r : Result Counts Refusal} {work before work' after : List ℕ}
    → RunCall i s work before work' after r → join_tests i s.limit s.ranks (length work) ≡ Ok tt
    → Settled i s (length before) (number_told (join_words r))
run_settled i s {work = work} {before = before} call passed =
    subst (λ (r : Result Counts Refusal). Settled i s (length before) (number_told (join_words r))) (sym call.answer)
    (answer_settled i s (room_of work before) passed)

-- The same of `kitfinder_join` with a rule number of 0, 1 or 2, by the words of its answer.
module _ (i : Input) (limit : ℕ) (ranks : List ℕ) (budget number : ℕ) (weights : Weights) (low : number ≤ 2)
    {work before work' after words : List ℕ} (call : NumberedCall i limit ranks budget number weights work before work' after words) where
  abbrev settings : Settings
  settings = settings_of limit ranks budget (rule_of number weights)

  -- it is a call of the run, which tells its answer by its words
  export_call : RunCall i settings work before work' after (numbered_answer i limit ranks budget number weights (room_of work before))
  export_call = number_run i limit ranks budget number weights work before low call.lists

  -- an accepted one begins its words with 0, and has its counts among them
  pub export_run : number_told words ≡ 0 → RunCall i settings work before work' after (Ok (counts_told words))
  export_run zero =
      subst (λ (r : Result Counts Refusal). RunCall i settings work before work' after r)
      (joined_told _ (sym (ap number_told call.told) ∙ zero) ∙ ap (λ (w : List ℕ). Ok (counts_told w)) (sym call.told))
      export_call

  pub export_finds : number_told words ≡ 0 → Finds i settings (counts_told words) before after
  export_finds zero = run_finds i settings (export_run zero)

  pub export_settled : join_tests i limit ranks (length work) ≡ Ok tt → Settled i settings (length before) (number_told words)
  export_settled passed =
      subst (λ (w : List ℕ). Settled i settings (length before) (number_told w)) (sym call.told)
      (run_settled i settings export_call passed)

-- and of any two such calls
pub exports_alike : (i i' : Input) → SameSets i i' → (limit limit' : ℕ) (ranks ranks' : List ℕ) (budget budget' number number' : ℕ)
    (weights weights' : Weights) {work before v after words work' before' v' after' words' : List ℕ} → number ≤ 2 → number' ≤ 2
    → NumberedCall i limit ranks budget number weights work before v after words
    → NumberedCall i' limit' ranks' budget' number' weights' work' before' v' after' words'
    → number_told words ≡ 0 → number_told words' ≡ 0
    → ((counts_told words).pairs ≡ (counts_told words').pairs)
    × (filled_part (counts_told words).pairs after ≡ filled_part (counts_told words').pairs after')
exports_alike i i' same limit limit' ranks ranks' budget budget' number number' weights weights' low low' a b zero zero' =
    runs_alike i i' same _ _ (export_run i limit ranks budget number weights low a zero)
    (export_run i' limit' ranks' budget' number' weights' low' b zero')

-- Empty kits have no bearing on an accepted run: none is in a pair, and each count is what it is without them.
module _ (i : Input) (s : Settings) {counts : Counts} {work before work' after : List ℕ}
    (call : RunCall i s work before work' after (Ok counts)) where
  pub empty_unpaired : (l r : ℕ) → get_or (left_sets i) l [] ≡ [] → pair_occurs l r (filled_part counts.pairs after) ≡ 0
  empty_unpaired = empties.empty_unpaired i s call

  pub empty_uncounted : counts ≡ counts_of (without_empty (query_of i s))
  empty_uncounted = empties.empty_uncounted i s call

  -- The search with the stack at a place beside it is accepted. If it finds a kit, that kit is listed with the stack, once, and none
  -- before it is; if it finds none, no kit is.
  module _ (p : ℕ) (there : p < length (right_sets i)) where
    pub beside_accepted : {r : Result Search Refusal} → r ≡ first_answer i.T i.left (get_or (right_sets i) p [])
        → r ≡ Ok (first_contained (left_sets i) (get_or (right_sets i) p []))
    beside_accepted = beside.search_accepted i s call p there

    module _ {f : Search} (search : Ok f ≡ first_answer i.T i.left (get_or (right_sets i) p [])) where
      pub beside_listed : {place : ℕ} → f.place ≡ Some place → pair_occurs place p (filled_part counts.pairs after) ≡ 1
      beside_listed = beside.search_pair_once i s call p there search

      pub beside_lowest : {place : ℕ} → f.place ≡ Some place → (l : ℕ) → l < place → pair_occurs l p (filled_part counts.pairs after) ≡ 0
      beside_lowest = beside.search_pair_before i s call p there search

      pub beside_none : f.place ≡ None → (l : ℕ) → pair_occurs l p (filled_part counts.pairs after) ≡ 0
      beside_none = beside.search_pair_none i s call p there search

  -- With one stack alone it finds a kit exactly when the run has a pair, and then that of the first pair.
  module _ (right : List ℕ) (alone : right_sets i ≡ right ∷ []) {f : Search}
      (search : Ok f ≡ first_answer i.T i.left right) where
    pub alone_found : is_some f.place ≡ ltb 0 counts.pairs
    alone_found = beside.alone_found i s call right alone search

    pub alone_place : {place : ℕ} → f.place ≡ Some place → take 2 after ≡ place ∷ 0 ∷ []
    alone_place = beside.alone_place i s call right alone search
