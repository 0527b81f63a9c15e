use mathlib.Core.Path.{sym, ◌∙◌}
use native.Mathlib.Omega.{arith}
use lib.ListN.{get_or}
use Rattle.sets.proofs.Good.{first_bad_end, first_bad-stop, first_bad_next, bad_place, bad_content, not_bad}
use Rattle.validation.proofs.collections.find_bad.Goals as goal

pub returns-then-k-ge-MAX_SETS : goal.returns-then-k-ge-MAX_SETS
returns-then-k-ge-MAX_SETS c =
    let a = c.args in
    let k = c.loop-k.k in
    let start = c.loop-k.start in
    let bad = bad_place a.t k start (get_or a.sets.now.ends.now k 0) a.sets.now.items.now c.if-k-ge-MAX_SETS.true in
    sym (first_bad-stop a.t a.sets.now.ends.now a.sets.now.items.now k start (omega arith) bad) ∙ c.loop-k.invariant

pub returns-then-not-good_set : goal.returns-then-not-good_set
returns-then-not-good_set c =
    let a = c.args in
    let k = c.loop-k.k in
    let start = c.loop-k.start in
    let test = sym c.good_set.ensures ∙ c.if-not-good_set.true in
    let bad = bad_content a.t k start (get_or a.sets.now.ends.now k 0) a.sets.now.items.now (omega arith) test in
    sym (first_bad-stop a.t a.sets.now.ends.now a.sets.now.items.now k start (omega arith) bad) ∙ c.loop-k.invariant

pub loop-k-preserved : goal.loop-k-preserved
loop-k-preserved c =
    let a = c.args in
    let k = c.loop-k.k in
    let start = c.loop-k.start in
    let test = sym c.good_set.ensures ∙ c.if-not-good_set.false in
    let fine = not_bad a.t k start (get_or a.sets.now.ends.now k 0) a.sets.now.items.now (omega arith) test in
    sym (first_bad_next a.t a.sets.now.ends.now a.sets.now.items.now k start (omega arith) fine) ∙ c.loop-k.invariant

pub returns : goal.returns
returns c =
    let a = c.args in
    let k = c.loop-k.k in
    sym (first_bad_end a.t a.sets.now.ends.now a.sets.now.items.now k c.loop-k.start c.loop-k-test.false) ∙ c.loop-k.invariant
