use Prim.Native.Nat.{ℕ, ◌+◌, ◌<◌}
use mathlib.Core.Path.{◌≡◌, subst}
use mathlib.Core.List.{List}
use native.Mathlib.Omega.{arith}
use Rattle.lists.proofs.Slices.{changed_none}
use Rattle.join_spec.specs.Query.{Query}
use Rattle.join_index.specs.declared.Layout.{Layout}
use Rattle.words.specs.Words.{Word}
use Rattle.words.specs.declared.Part.{Part}
use Rattle.join_pairs.specs.shortlists.Shortlists.{SpanThere, RankMet, FindThere, Shortlisted}
use Rattle.join_pairs.proofs.shortlists.Meeting.{changed_then}
use Rattle.join_pairs.proofs.shortlists.Sifting.{some_ranks, pivot_there, sifting_start, sifting_span, sifting_step, sifting_end}
use Rattle.join_pairs.proofs.shortlists.find_candidates.Invariants.{Searching}
use Rattle.join_pairs.proofs.shortlists.find_candidates.Goals as goal

module _ {lay : Layout} {w : List ℕ} {from to pivot : ℕ} {v : List ℕ} {a b i : ℕ}
    (searching : Searching lay w from to pivot v a b i) where
  searching-end : Shortlisted lay w from to pivot v (record { from = a; to = b; rest = i })
  searching-end =
      record {
        changed = searching.changed;
        low = searching.low;
        is = λ q there. sifting_end there (searching.sifting q there);
      }

  module _ (more : i < to) {r : ℕ} (word : Word v i r) where
    searching-span : {q : Query} → FindThere lay q w from to pivot → SpanThere lay q v r pivot a b
    searching-span {q} there = sifting_span there searching.changed.low (searching.sifting q there) searching.low more word

    searching-step : {u : List ℕ} {s : Part} → RankMet lay v r pivot a b u s
        → Searching lay w from to pivot u s.from s.to (i + 1)
    searching-step met =
        record {
          low = omega (arith, searching.low);
          changed = changed_then searching.changed met.changed;
          sifting = λ q there.
              sifting_step there searching.changed.low (searching.sifting q there) searching.low more word met;
        }

pub list_of-first-requires : goal.list_of-first-requires
list_of-first-requires c =
    record { query = c.requires.some_query.query; holds = pivot_there c.requires.some_query.holds }

pub loop-i-init : goal.loop-i-init
loop-i-init c = (
  record {
    low = omega arith;
    changed = changed_none c.args.lay.slots c.args.lay.row_starts c.args.work.now;
    sifting = λ q there. sifting_start there c.list_of-first.ensures;
  },
  c.requires.clear_2,
)

pub stops-requires : goal.stops-requires
stops-requires c =
    record {
      query = c.requires.some_query.query;
      holds = (searching-span c.loop-i.invariant.0 c.loop-i-test.true c.word_at-r.ensures c.requires.some_query.holds).rank;
    }

pub returns-then-stops : goal.returns-then-stops
returns-then-stops c =
    let inv = c.loop-i.invariant in
    record {
      listed = searching-end inv.0;
      clear = inv.1;
    }

pub meet-s-requires : goal.meet-s-requires
meet-s-requires c =
    record {
      some_query = record {
        query = c.requires.some_query.query;
        holds = searching-span c.loop-i.invariant.0 c.loop-i-test.true c.word_at-r.ensures c.requires.some_query.holds;
      };
      clear_2 = c.loop-i.invariant.1;
    }

pub loop-i-preserved : goal.loop-i-preserved
loop-i-preserved c = (
  searching-step c.loop-i.invariant.0 c.loop-i-test.true c.word_at-r.ensures c.meet-s.ensures.met,
  c.meet-s.ensures.clear,
)

pub returns : goal.returns
returns c = record {
  listed =
      let a = c.args in
      let loop = c.loop-i in
      let some = some_ranks c.requires.some_query.holds in
      let here : loop.i ≡ a.to = omega (arith, some, loop.auto.i-end, c.loop-i-test.false) in
      subst (λ (rest : ℕ). Shortlisted a.lay a.work.now a.from a.to a.pivot loop.work (record { from = loop.a; to = loop.b; rest = rest })) here
      (searching-end loop.invariant.0);
  clear = c.loop-i.invariant.1;
}
