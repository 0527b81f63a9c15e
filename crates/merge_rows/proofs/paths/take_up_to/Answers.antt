use Prim.Native.Nat.{ℕ, ◌+◌, ◌<◌, ◌≤◌}
use mathlib.Core.Path.{◌≡◌, sym, ap, ◌∙◌}
use mathlib.Core.List.{List, [], ◌∷◌, ◌++◌, append-nil, append_assoc}
use mathlib.Core.Bool.{Bool, true, false}
use native.Mathlib.Nat.{add-zero}
use native.Mathlib.Numerals.{add-one}
use native.Mathlib.Omega.{arith}
use lib.ListN.{length, get_or, take, drop, set, length-set, drop_of_length-le}
use lib.Seq.{drop-cons, take-set-le, take-suc-set}
use Rattle.lists.specs.Lists.{one, onto, keep}
use Rattle.lists.proofs.Counting.{one_bound, count-drop, count-drop_end}
use Rattle.merge_rows.specs.FirstRanks.{UpToTaken}
use Rattle.merge_rows.proofs.RankCounts.{RankAt, rank_at, number_of}
use Rattle.merge_rows.proofs.paths.take_up_to.Invariants.{TakingUpTo, passes}
use Rattle.merge_rows.proofs.paths.take_up_to.Goals as goal
use Rattle.merge_rows.proofs.paths.take_up_to.Goals.{After-from-n, In-loop-x}

-- one number more in front of the rest, where it passes
take_onto : (l : List ℕ) (n x : ℕ) (rest : List ℕ) → n < length l → (b : Bool)
    → take (n + one b) (set l n x) ++ rest ≡ take n l ++ onto b x rest
take_onto l n x rest below true =
    rw (add-one n, take-suc-set l n x below) (append_assoc (take n l) (x ∷ []) rest)
take_onto l n x rest below false = rw (add-zero n, take-set-le n l n x (omega arith))

module _ {ranks items : List ℕ} {last : ℕ} {was is : List ℕ} {n e : ℕ} (t : TakingUpTo ranks items last was is n e) where
  taking_step : e < length items → n < length is → {r : ℕ} → r ≡ one (passes ranks last (get_or items e 0))
      → TakingUpTo ranks items last was (set is n (get_or items e 0)) (n + r) (e + 1)
  unfolding keep
  taking_step more room {r} number =
      let x = get_or items e 0 in
      let rest = keep (passes ranks last) (drop (e + 1) items) in
      record {
        taken =
            ap (λ (k : ℕ). take (n + k) (set is n x) ++ rest) number ∙ take_onto is n x rest room (passes ranks last x)
            ∙ ap (λ (l : List ℕ). take n is ++ l)
            (ap (λ (k : ℕ). onto (passes ranks last x) x (keep (passes ranks last) (drop k items))) (add-one e)
            ∙ sym (ap (keep (passes ranks last)) (drop-cons items e 0 more)))
            ∙ t.taken;
        total = omega (arith, t.total, number, count-drop (passes ranks last) 0 items e more);
        low = omega (arith, t.low, number, one_bound (passes ranks last x));
        same = length-set is n x ∙ t.same;
      }

  taking-end : length items ≤ e → UpToTaken ranks items last is n
  unfolding keep
  taking-end past =
      record {
        size = omega (arith, t.total, count-drop_end (passes ranks last) items e past);
        is =
            sym (append-nil (take n is))
            ∙ ap (λ (l : List ℕ). take n is ++ keep (passes ranks last) l) (sym (drop_of_length-le items {i = e} past))
            ∙ t.taken;
      }

-- the item and its rank
here : (c : In-loop-x)
    → RankAt c.args.ranks.now c.args.set.now
    c.loop-x.x-index
here c = rank_at c.requires.ranked c.loop-x.x-index c.loop-x-test.true

-- the path has room for it
room_here : (c : In-loop-x) → c.loop-x.n < length c.loop-x.path
room_here c =
    let i = c.loop-x.invariant in
    omega (arith, i.low, i.same, c.loop-x-test.true, c.requires.room)

pub bounds-ranks-x : goal.bounds-ranks-x
bounds-ranks-x c = (here (goal.at.bounds-ranks-x c).In-loop-x).item

-- 1 for an item that passes
number_here : (c : After-from-n)
    → let a = c.args in
    c.from-n.result ≡ one (passes a.ranks.now a.last (get_or a.set.now c.loop-x.x-index 0))
number_here c =
    let a = c.args in
    c.from-n.ensures ∙ number_of (passes a.ranks.now a.last (get_or a.set.now c.loop-x.x-index 0))

pub loop-x-preserved : goal.loop-x-preserved
loop-x-preserved c =
    taking_step c.loop-x.invariant c.loop-x-test.true (room_here (goal.at.loop-x-preserved c).In-loop-x)
    (number_here (goal.at.loop-x-preserved c).After-from-n)

pub returns : goal.returns
returns c = taking-end c.loop-x.invariant c.loop-x-test.false
