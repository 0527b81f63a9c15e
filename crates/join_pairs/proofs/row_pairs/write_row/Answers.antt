use Prim.Native.Nat.{ℕ, ◌+◌, ◌≤◌, ◌<◌}
use mathlib.Core.Path.{◌≡◌, sym, ap, ◌∙◌}
use mathlib.Core.List.{List, [], ◌∷◌, ◌++◌}
use mathlib.Core.Bool.{Bool}
use native.Mathlib.Omega.{arith}
use Rattle.lists.specs.Lists.{slice}
use Rattle.lists.specs.Writing.{Put}
use Rattle.lists.proofs.Slices.{slice_past, slice_next}
use Rattle.lists.proofs.Writing.{writing_step, writing_end, writing_room}
use Rattle.join_spec.specs.Query.{Query}
use Rattle.join_spec.specs.PairList.{onto_pair}
use Rattle.join_index.specs.declared.Layout.{Layout}
use Rattle.join_check.specs.declared.Probe.{Probe}
use Rattle.words.specs.Words.{Word}
use Rattle.join_index.proofs.Places.{place_right}
use Rattle.kept_rows.specs.Kept.{contained_at}
use Rattle.join_pairs.specs.row_pairs.Containing.{row_among, CheckThere}
use Rattle.join_pairs.specs.row_pairs.Writing.{PushRoom, RowRoom}
use Rattle.join_pairs.proofs.row_pairs.RowPairs.{row_next, row_none}
use Rattle.join_pairs.proofs.shortlists.Inverted.{slice-memb}
use Rattle.join_pairs.proofs.row_pairs.write_row.Invariants.{RowWriting}
use Rattle.join_pairs.proofs.row_pairs.write_row.Goals as goal

row_past : (q : Query) (k : ℕ) (w : List ℕ) (i to : ℕ) → to ≤ i → row_among q k (slice i to w) ≡ []
row_past q k w i to past =
    ap (row_among q k) (slice_past i to w past) ∙ row_none (contained_at q k) k

module _ {lay : Layout} {w : List ℕ} {p : Probe} {k from to at : ℕ} {was : List ℕ} {n : ℕ} {pairs : List ℕ} {i s : ℕ} {b : Bool}
    (writing : RowWriting lay w p k from to at was n pairs i) (more : i < to) (word : Word w i s)
    (tested : (q : Query) (k : ℕ) → CheckThere lay q w p k s → b ≡ contained_at q k s)
  where
    -- what remains begins with the pair, if it is one
    row-split : (q : Query) → RowRoom lay q w p k from to at was
        → row_among q k (slice i to w) ≡ onto_pair b k s [] ++ row_among q k (slice (i + 1) to w)
    row-split q there =
        let right = place_right there.places i s writing.low more word in
        let here = slice-memb word from to writing.low more there.places.within in
        let test : contained_at q k s ≡ b =
        sym (tested q k (record { right = right; signed = there.signed; decides = there.decides s here })) in
        ap (row_among q k)
        (slice_next i to w more there.places.within ∙ ap (λ (x : ℕ). x ∷ slice (i + 1) to w) (sym word.is))
        ∙ row_next (contained_at q k) k s (slice (i + 1) to w)
        ∙ ap (λ (t : Bool). onto_pair t k s [] ++ row_among q k (slice (i + 1) to w)) test

    row_step : {r : ℕ} {u : List ℕ} → Put pairs n (onto_pair b k s []) r u → RowWriting lay w p k from to at was r u (i + 1)
    row_step put =
        record {
          low = omega (arith, writing.low);
          written = λ q there. writing_step (writing.written q there) (row-split q there) put;
        }

    row_room : {q : Query} → RowRoom lay q w p k from to at was → PushRoom n k s b pairs
    row_room {q} there =
        let right = place_right there.places i s writing.low more word in
        record {
          left = omega (arith, there.left.below, there.left.index.ground.left_few);
          right = omega (arith, right.below, right.index.ground.right_few);
          room =
              writing_room (writing.written q there) (onto_pair b k s []) (row_among q k (slice (i + 1) to w)) (row-split q there);
        }

pub is_contained-paired-requires : goal.is_contained-paired-requires
is_contained-paired-requires c =
    let at-loop = c.loop-i in
    let there = c.requires.holds in
    let word = c.word_at-s in
    record {
      some_query = record {
        query = c.requires.query;
        holds =
            place_right there.places at-loop.i word.result at-loop.invariant.low c.loop-i-test.true
            word.ensures;
      };
      rising = there.rising;
    }

pub push-n-requires : goal.push-n-requires
push-n-requires c =
    row_room c.loop-i.invariant c.loop-i-test.true c.word_at-s.ensures
    c.is_contained-paired.ensures c.requires.holds

pub loop-i-preserved : goal.loop-i-preserved
loop-i-preserved c =
    row_step c.loop-i.invariant c.loop-i-test.true c.word_at-s.ensures
    c.is_contained-paired.ensures c.push-n.ensures

pub returns : goal.returns
returns c =
    let a = c.args in
    let loop = c.loop-i in
    λ q there. writing_end (loop.invariant.written q there) (row_past q a.k a.work.now loop.i a.to c.loop-i-test.false)
