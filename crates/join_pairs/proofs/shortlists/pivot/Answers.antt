use Prim.Native.Nat.{ℕ, ◌+◌, ◌-◌, ◌<◌}
use mathlib.Core.Path.{◌≡◌, sym, ap, subst, ◌∙◌}
use mathlib.Core.List.{List}
use mathlib.Core.Bool.{true}
use native.Mathlib.Omega.{arith}
use lib.ListN.{length, length-take, get_or, take, drop}
use Rattle.lists.specs.Lists.{memb}
use Rattle.lists.proofs.Membership.{memb_at}
use Rattle.lists.proofs.Slices.{slice_from, get_d_slice}
use Rattle.join_pairs.proofs.shortlists.Inverted.{rank_of}
use Rattle.join_pairs.proofs.shortlists.pivot.Goals as goal
use Rattle.join_pairs.proofs.shortlists.pivot.Goals.{In-loop-word, else-n-least, then-n-least}

-- the rank at hand is one behind the first
within : (c : In-loop-word) → 1 + c.loop-word.word-index < length c.args.ranks.now
within c =
    let ranks = c.args.ranks.now in
    omega (arith, c.loop-word-test.true, length-take (length ranks - 1) (drop 1 ranks))

rank_here : (c : In-loop-word)
    → let ranks = c.args.ranks.now in
    get_or (take (length ranks - 1) (drop 1 ranks)) c.loop-word.word-index 0 ≡ get_or ranks (1 + c.loop-word.word-index) 0
rank_here c =
    let ranks = c.args.ranks.now in
    let i = c.loop-word.word-index in
    ap (λ (l : List ℕ). get_or l i 0) (sym (slice_from 1 (length ranks) ranks)) ∙ get_d_slice 0 1 (length ranks) i ranks (within c)

pub count_holders-least-requires : goal.count_holders-least-requires
count_holders-least-requires c =
    record { query = c.requires.query; holds = rank_of c.requires.holds 0 c.requires.holds.some c.word_at-rank.ensures.is }

pub loop-word-init : goal.loop-word-init
loop-word-init c =
    let ranks = c.args.ranks.now in
    subst (λ (r : ℕ). memb r ranks ≡ true) (sym c.word_at-rank.ensures.is) (memb_at ranks 0 0 c.requires.holds.some)

pub count_holders-n-requires : goal.count_holders-n-requires
count_holders-n-requires c =
    let here = (goal.at.count_holders-n-requires c).In-loop-word in
    record {
      query = c.requires.query;
      holds = rank_of c.requires.holds (1 + c.loop-word.word-index) (within here) (rank_here here);
    }

pub loop-word-preserved : goal.loop-word-preserved
loop-word-preserved c =
    let ranks = c.args.ranks.now in
    let test = λ (r : ℕ). memb r ranks ≡ true in
    let here = (goal.at.loop-word-preserved c).In-loop-word in
    let next = subst test (sym (rank_here here)) (memb_at ranks (1 + c.loop-word.word-index) 0 (within here)) in
    elim c.if-n-least.branch [ then-n-least way ↦ subst test (sym way.rank-is) next | else-n-least way ↦ subst test (sym way.rank-is) c.loop-word.invariant ]
