use Prim.Native.Nat.{ℕ, ◌+◌, ◌<◌}
use mathlib.Core.Path.{◌≡◌, refl, sym, ap, ◌∙◌}
use mathlib.Core.List.{List, [], ◌∷◌, map, map-append}
use mathlib.Core.Bool.{Bool, true, false, ◌||◌}
use native.Mathlib.Numerals.{add-one}
use native.Mathlib.Omega.{arith}
use lib.Dec.{eqb}
use lib.ListN.{length, get_or, take}
use lib.Seq.{take-suc}
use Rattle.lists.specs.Lists.{memb}
use Rattle.lists.proofs.Membership.{memb_append}
use Rattle.bit_sets.specs.BitSets.{member, Inserted}
use Rattle.merge_rows.specs.FirstRanks.{RanksMarked}
use Rattle.merge_rows.proofs.RankCounts.{RankAt, rank_at}
use Rattle.merge_rows.proofs.paths.mark_ranks.Goals as goal
use Rattle.merge_rows.proofs.paths.mark_ranks.Goals.{In-loop-x}

marked_start : (ranks was : List ℕ) → RanksMarked ranks [] was was
unfolding memb
marked_start ranks was = record { size = refl; holds = λ r. refl }

turn : (a b c : Bool) → (a || (b || c)) ≡ ((b || (a || false)) || c)
turn true true c = refl
turn true false c = refl
turn false true c = refl
turn false false c = refl

marked_step : {ranks was is : List ℕ} (set : List ℕ) {e : ℕ} → RanksMarked ranks (take e set) was is → e < length set → {next : List ℕ}
    → Inserted is (get_or ranks (get_or set e 0) 0) next → RanksMarked ranks (take (e + 1) set) was next
unfolding memb
marked_step {ranks} {was} {is} set {e} marked more {next} one =
    record {
      size = one.size ∙ marked.size;
      holds = λ r.
          let rank = get_or ranks (get_or set e 0) 0 in
          let before = map (λ x. get_or ranks x 0) (take e set) in
          one.holds r ∙ ap (λ (b : Bool). eqb r rank || b) (marked.holds r)
          ∙ turn (eqb r rank) (memb r before) (member was r)
          ∙ ap (λ (b : Bool). b || member was r)
          (sym (memb_append r before (rank ∷ []))
          ∙ ap (memb r)
          (sym (map-append (λ x. get_or ranks x 0) (take e set) (get_or set e 0 ∷ []))
          ∙ ap (map (λ x. get_or ranks x 0)) (sym (take-suc set e 0 more) ∙ ap (λ (n : ℕ). take n set) (sym (add-one e)))));
    }

-- the item and its rank
here : (c : In-loop-x)
    → RankAt c.args.ranks.now c.args.set.now
    c.loop-x.x-index
here c = rank_at c.requires.ranked c.loop-x.x-index c.loop-x-test.true

pub loop-x-init : goal.loop-x-init
loop-x-init c = marked_start c.args.ranks.now c.args.words.now

pub bounds-ranks-x : goal.bounds-ranks-x
bounds-ranks-x c = (here (goal.at.bounds-ranks-x c).In-loop-x).item

pub insert-requires : goal.insert-requires
insert-requires c =
    omega (arith, (here (goal.at.insert-requires c).In-loop-x).rank, c.loop-x.invariant.size, c.requires.wide)

pub loop-x-preserved : goal.loop-x-preserved
loop-x-preserved c =
    marked_step c.args.set.now c.loop-x.invariant c.loop-x-test.true c.insert.ensures
