-- `visit_partition` meets its contract: its left sets' first rank is read off the first of them, and the partition is a node of depth 1
-- at it. Its candidates are the right sets seen at that rank, which stand first by least rank, where the rule asks for them.
use Prim.Native.Nat.{ℕ, suc, ◌-◌}
use mathlib.Core.Path.{◌≡◌, sym, subst, ◌∙◌}
use mathlib.Core.List.{[], ◌∷◌}
use mathlib.Core.Bool.{true, false}
use native.Mathlib.Omega.{arith}
use Rattle.join_spec.specs.declared.Rule.{Rule}
use Rattle.join_spec.specs.Query.{Query}
use Rattle.join_index.specs.Ground.{inverted_list, seen_count, asks_seen}
use Rattle.join_index.specs.Asking.{RankThere}
use Rattle.join_index.proofs.Orders.{range_left}
use Rattle.join_walk.specs.partition.Partition.{Partition}
use Rattle.join_walk.proofs.partition.PartitionSteps.{partition_range, partition_key, seen_word, partition_node, partition_visited}
use Rattle.join_walk.proofs.partition.PartitionSteps.{unasked_node, unheld_list, unheld_visited}
use Rattle.join_walk.proofs.partition.visit_partition.Goals as goal
use Rattle.join_walk.proofs.partition.visit_partition.Goals.{After-asks_seen, After-key_at-key, After-word_at-seen, Else-asks_seen, Else-is_held, Start, Then-asks_seen}

pub key_at-key-requires : goal.key_at-key-requires
key_at-key-requires c =
    let part = c.requires.some_rank.holds in
    record {
      query = c.requires.some_rank.query;
      holds = range_left (partition_range part) c.args.lo part.some c.word_at-k.ensures;
    }

-- the partition that is asked of, at the start
abbrev Asked : Start → Query → ℕ → Type 0
Asked s q r = let a = s.args in Partition a.lay a.st q a.work.now a.lo a.hi a.p r

-- the key that was read, one more than the partition's rank
key_is : (c : After-key_at-key) (q : Query) (r : ℕ) → Asked (goal.at.After-key_at-key c).Start q r → c.key_at-key.result ≡ suc r
key_is c q r part = partition_key part c.word_at-k.ensures c.key_at-key.ensures

-- whether the query's rule asks for the seen right sets
asks_is : (c : After-asks_seen) (q : Query) (r : ℕ) → Asked (goal.at.After-asks_seen c).Start q r → asks_seen q.rule ≡ c.asks_seen.result
asks_is c q r part =
    subst (λ (rule : Rule). asks_seen rule ≡ c.asks_seen.result) part.underway.rule (sym c.asks_seen.ensures)

asked : (c : Then-asks_seen) (q : Query) (r : ℕ) → Asked (goal.at.Then-asks_seen c).Start q r → asks_seen q.rule ≡ true
asked c q r part = asks_is (goal.at.Then-asks_seen c).After-asks_seen q r part ∙ c.if-asks_seen.true

seen_is : (c : After-word_at-seen) (q : Query) (r : ℕ) → Asked (goal.at.After-word_at-seen c).Start q r
    → let a = c.args in c.word_at-seen.result ≡ seen_count a.lay a.work.now r
seen_is c q r part = seen_word part (key_is (goal.at.After-word_at-seen c).After-key_at-key q r part) c.word_at-seen.ensures

pub overflow_add-offsets : goal.overflow_add-offsets
overflow_add-offsets c =
    let part = c.requires.some_rank.holds in
    omega (arith, key_is (goal.at.overflow_add-offsets c).After-key_at-key c.requires.some_rank.query c.requires.some_rank.rank part, part.last, part.index.ground.least_offsets_within, part.index.room, c.well_formed.0)

pub word_at-seen-requires : goal.word_at-seen-requires
word_at-seen-requires c =
    let part = c.requires.some_rank.holds in
    omega (arith, key_is (goal.at.word_at-seen-requires c).After-key_at-key c.requires.some_rank.query c.requires.some_rank.rank part, part.last, part.index.ground.least_offsets_within, part.index.room)

pub overflow_add-node : goal.overflow_add-node
overflow_add-node c =
    let part = c.requires.some_rank.holds in
    omega (
      arith,
      seen_is (goal.at.overflow_add-node c).After-word_at-seen c.requires.some_rank.query c.requires.some_rank.rank part,
      part.index.ground.seen_within (asked (goal.at.overflow_add-node c).Then-asks_seen c.requires.some_rank.query c.requires.some_rank.rank part) c.requires.some_rank.rank part.last,
      part.index.room,
      c.well_formed.0,
    )

pub visit_node-requires : goal.visit_node-requires
visit_node-requires c =
    record {
      some_path = record {
        query = c.requires.some_rank.query;
        path = c.requires.some_rank.rank ∷ [];
        holds =
            partition_node c.requires.some_rank.holds (asked (goal.at.visit_node-requires c).Then-asks_seen c.requires.some_rank.query c.requires.some_rank.rank c.requires.some_rank.holds)
            (seen_is (goal.at.visit_node-requires c).After-word_at-seen c.requires.some_rank.query c.requires.some_rank.rank c.requires.some_rank.holds);
      };
      clear_2 = c.requires.clear_2;
    }

pub returns-then-asks_seen : goal.returns-then-asks_seen
returns-then-asks_seen c =
    record {
      visited = λ q r part.
          partition_visited c.args.st r
          (c.visit_node.ensures.visited q (r ∷ []) (partition_node part (asked (goal.at.returns-then-asks_seen c).Then-asks_seen q r part) (seen_is (goal.at.returns-then-asks_seen c).After-word_at-seen q r part)));
      clear = c.visit_node.ensures.clear;
    }

-- it does not
unasked : (c : Else-asks_seen) (q : Query) (r : ℕ) → Asked (goal.at.Else-asks_seen c).Start q r → asks_seen q.rule ≡ false
unasked c q r part = asks_is (goal.at.Else-asks_seen c).After-asks_seen q r part ∙ c.if-asks_seen.false

rank_there : (c : Else-asks_seen) (q : Query) (r : ℕ) → Asked (goal.at.Else-asks_seen c).Start q r
    → let a = c.args in
    RankThere a.lay q a.work.now (c.key_at-key.result - 1)
rank_there c q r part =
    record { index = part.index; below = omega (arith, key_is (goal.at.Else-asks_seen c).After-key_at-key q r part, part.last) }

pub overflow_sub-key : goal.overflow_sub-key
overflow_sub-key c =
    omega (arith, key_is (goal.at.overflow_sub-key c).After-key_at-key c.requires.some_rank.query c.requires.some_rank.rank c.requires.some_rank.holds)

pub is_held-requires : goal.is_held-requires
is_held-requires c =
    record { query = c.requires.some_rank.query; holds = rank_there (goal.at.is_held-requires c).Else-asks_seen c.requires.some_rank.query c.requires.some_rank.rank c.requires.some_rank.holds }

pub visit_node-requires-then-is_held : goal.visit_node-requires-then-is_held
visit_node-requires-then-is_held c =
    record {
      some_path = record {
        query = c.requires.some_rank.query;
        path = c.requires.some_rank.rank ∷ [];
        holds = unasked_node c.requires.some_rank.holds (unasked (goal.at.visit_node-requires-then-is_held c).Else-asks_seen c.requires.some_rank.query c.requires.some_rank.rank c.requires.some_rank.holds);
      };
      clear_2 = c.requires.clear_2;
    }

pub returns-then-is_held : goal.returns-then-is_held
returns-then-is_held c =
    record {
      visited = λ q r part.
          partition_visited c.args.st r
          (c.visit_node-then-is_held.ensures.visited q (r ∷ []) (unasked_node part (unasked (goal.at.returns-then-is_held c).Else-asks_seen q r part)));
      clear = c.visit_node-then-is_held.ensures.clear;
    }

unheld : (c : Else-is_held) (q : Query) (r : ℕ) → Asked (goal.at.Else-is_held c).Start q r → inverted_list q r ≡ []
unheld c q r part =
    let key = key_is (goal.at.Else-is_held c).After-key_at-key q r part in
    let rank : c.key_at-key.result - 1 ≡ r = omega (arith, key) in
    subst (λ (n : ℕ). inverted_list q n ≡ []) rank
    (c.is_held.ensures q (rank_there (goal.at.Else-is_held c).Else-asks_seen q r part) c.if-is_held.false)

pub keep_list-top-requires : goal.keep_list-top-requires
keep_list-top-requires c =
    record {
      query = c.requires.some_rank.query;
      holds =
          unheld_list c.requires.some_rank.holds (unasked (goal.at.keep_list-top-requires c).Else-asks_seen c.requires.some_rank.query c.requires.some_rank.rank c.requires.some_rank.holds)
          (unheld (goal.at.keep_list-top-requires c).Else-is_held c.requires.some_rank.query c.requires.some_rank.rank c.requires.some_rank.holds);
    }

pub returns : goal.returns
returns c =
    record {
      visited = λ q r part.
          partition_visited c.args.st r
          (unheld_visited part (unasked (goal.at.returns c).Else-asks_seen q r part) (unheld (goal.at.returns c).Else-is_held q r part) c.keep_list-top.ensures);
      clear = c.requires.clear_2;
    }
