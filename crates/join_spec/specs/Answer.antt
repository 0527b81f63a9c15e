-- What a join answers, and what its lent lists hold afterwards: the rows of "When no list is made" in their order.
use Rattle.std.specs.Prelude.{ℕ, ◌*◌, ◌≡◌, List, [], ◌∷◌, Bool, true, false, not, cond, ◌||◌, eqb, ltb, length, Result, Err, Ok, ⊤}
use Rattle.sets.specs.Limits.{max_items, max_limit}
use Rattle.sets.specs.Ordered.{is_permutation}
use Rattle.sets.specs.Refusals.{refuse_if, unless, clears, accepted_words, refused_words}
use Rattle.sets.specs.Lent.{filled_over, after_refusal}
use Rattle.sets.specs.declared.Refusal.TheVariants.{BadSettings, Spent, ShortPairs}
use Rattle.inputs.specs.Input.{Input, left_sets, right_sets}
use Rattle.inputs.specs.Tests.{sets_test, work_test}
use Rattle.join_spec.specs.PairList.{pair_list, pair_count}
use Rattle.join_spec.specs.Query.{Settings, Query, query_of}
use Rattle.join_spec.specs.Counting.{counts_of, checks_of}
use Rattle.join_spec.specs.declared.Counts.{Counts}
use Rattle.sets.specs.declared.Refusal.{Refusal}

-- whether T, a limit or a rank table is refused
unfoldable pub bad_settings : ℕ → ℕ → List ℕ → Bool
bad_settings T limit ranks = ltb max_items T || (eqb limit 0 || (ltb max_limit limit || not (is_permutation T ranks)))

-- the lengths of the lent lists: the words of the work list, the places of the pair list
pub record Room : Type 0 where
  pub words : ℕ
  pub places : ℕ

abbrev pub room_of : List ℕ → List ℕ → Room
room_of work pairs = record { words = length work; places = length pairs }

-- the tests before the walk: 6, 5 left, 5 right, 7
unfoldable pub join_tests : Input → ℕ → List ℕ → ℕ → Result ⊤ Refusal
join_tests i limit ranks words =
    unless Err (refuse_if (bad_settings i.T limit ranks) BadSettings)
    (unless Err (sets_test i)
    (work_test i words))

-- the answer of a walk that was made: 8, then 9, then the counts
unfoldable pub walk_answer : Query → ℕ → ℕ → Result Counts Refusal
walk_answer q budget places =
    cond (ltb budget (checks_of q)) (Err Spent)
    (cond (ltb places (2 * pair_count q.lefts q.rights)) (Err ShortPairs)
    (Ok (counts_of q)))

-- the answer of a join: what the tests refuse, else the walk's
unfoldable pub join_answer : Input → Settings → Room → Result Counts Refusal
join_answer i s room =
    unless Err (join_tests i s.limit s.ranks room.words) (walk_answer (query_of i s) s.budget room.places)

-- the pair list afterwards: filled, and beyond that as before; zeros after 8 and 9; as before after any other refusal
abbrev pub pairs_after : Result Counts Refusal → List ℕ → List ℕ → List ℕ
pairs_after (Ok counts) pairs before = filled_over pairs before
pairs_after (Err why) pairs before = after_refusal why before

-- whether the work list is as before: after every refusal but 8 and 9
abbrev pub work_kept : Result Counts Refusal → Bool
work_kept (Ok counts) = false
work_kept (Err why) = not (clears why)

-- a call of a join that should answer so: its answer, and its lent lists before and after. The work list is the only undecided result:
-- its length stays, and its content if `work_kept` says so
pub record JoinCall (right : Result Counts Refusal) (i : Input) (work before work' after : List ℕ) (r : Result Counts Refusal) : Type 0 where
  pub answer : r ≡ right
  pub pairs : after ≡ pairs_after r (pair_list (left_sets i) (right_sets i)) before
  pub work_size : length work' ≡ length work
  pub work_kept_lem : work_kept r ≡ true → work' ≡ work

-- a call of the run
abbrev pub RunCall : Input → Settings → List ℕ → List ℕ → List ℕ → List ℕ → Result Counts Refusal → Type 0
RunCall i s work before work' after r = JoinCall (join_answer i s (room_of work before)) i work before work' after r

-- the words of an answer: pairs, by path, confirmed, checks, dropped, false
abbrev pub join_words : Result Counts Refusal → List ℕ
join_words (Ok counts) =
    accepted_words
    (counts.pairs ∷ counts.by_path ∷ counts.confirmed ∷ counts.checks ∷ counts.dropped ∷ counts.false_drops ∷ [])
join_words (Err why) = refused_words why 6
