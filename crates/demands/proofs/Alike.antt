-- Two accepted calls of the run over collections with equal sets, whatever their settings, find the same pairs.
use Prim.Native.Nat.{ℕ, ◌*◌}
use mathlib.Core.Path.{◌≡◌, sym, ap₂, ◌∙◌}
use mathlib.Core.List.{List}
use lib.ListN.{take}
use Rattle.std.specs.Prelude.{Ok}
use Rattle.inputs.specs.Input.{Input, left_sets, right_sets}
use Rattle.join_spec.specs.declared.Counts.{Counts}
use Rattle.join_spec.specs.PairList.{pair_list, pair_count}
use Rattle.join_spec.specs.Query.{Settings}
use Rattle.join_spec.specs.Answer.{room_of, RunCall}
use Rattle.join_spec.proofs.AcceptedRuns.{pairs_counted}
use Rattle.join_spec.proofs.Calls.{call_filled}

module _ (i i' : Input) (lefts : left_sets i ≡ left_sets i') (rights : right_sets i ≡ right_sets i') (s s' : Settings)
    {counts counts' : Counts} {work before v after work' before' v' after' : List ℕ}
    (a : RunCall i s work before v after (Ok counts)) (b : RunCall i' s' work' before' v' after' (Ok counts')) where
  pub alike_count : counts.pairs ≡ counts'.pairs
  alike_count =
      pairs_counted i s (room_of work before) counts (sym a.answer) ∙ ap₂ pair_count lefts rights
      ∙ sym (pairs_counted i' s' (room_of work' before') counts' (sym b.answer))

  pub alike_pairs : take (2 * counts.pairs) after ≡ take (2 * counts'.pairs) after'
  alike_pairs = call_filled i s a ∙ ap₂ pair_list lefts rights ∙ sym (call_filled i' s' b)
