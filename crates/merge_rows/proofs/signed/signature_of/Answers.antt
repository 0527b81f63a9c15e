-- `merge_rows::signed::signature_of` meets its contract: a signature that is there is not 0; one that is not is made and kept.
use Prim.Native.Nat.{ℕ, ◌+◌, ◌*◌, ◌<◌, ◌≤◌}
use mathlib.Core.Path.{sym, ap, ◌∙◌}
use mathlib.Core.List.{List, []}
use native.Mathlib.Omega.{arith}
use lib.ListN.{length, get_or}
use Rattle.sets.specs.Collections.{between, lent_sets, sets_in}
use Rattle.sets.specs.Signatures.{signature}
use Rattle.sets.proofs.Between.{length-sets}
use Rattle.side_index.specs.inverted.Placing.{start_at}
use Rattle.side_index.proofs.inverted.Collected.{SetAt, set_at}
use Rattle.merge_rows.proofs.SignedLaws.{signs_none, signs_store}
use Rattle.merge_rows.proofs.signed.signature_of.Goals as goal
use Rattle.merge_rows.proofs.signed.signature_of.Goals.{Start}

-- right set s, among as many right sets as ends
set_there : (c : Start)
    → let a = c.args in
    SetAt c.requires.room.T a.s (start_at a.sets.now.ends.now a.s) (get_or a.sets.now.ends.now a.s 0)
    (get_or (sets_in (lent_sets a.sets.now)) a.s []) a.sets.now.items.now
set_there c =
    let a = c.args in set_at c.requires.room.T a.sets.now.ends.now a.sets.now.items.now c.requires.room.good a.s c.requires.place

place : (c : Start) → c.args.s < length (sets_in (lent_sets c.args.sets.now))
place c = omega (arith, c.requires.place, length-sets 0 c.args.sets.now.ends.now c.args.sets.now.items.now)

room : (c : Start) → c.args.at + 2 * c.args.s + 2 ≤ length c.args.work.now
room c = omega (arith, place c, c.requires.room.signed.room)

pub double_at-known-requires : goal.double_at-known-requires
double_at-known-requires c = room (goal.at.double_at-known-requires c).Start

pub returns-then-known-ne0 : goal.returns-then-known-ne0
returns-then-known-ne0 c =
    let signed = c.requires.room.signed in
    record {
      is = c.double_at-known.ensures ∙ signed.each c.args.s (place (goal.at.returns-then-known-ne0 c).Start) (λ none. c.if-known-ne0.true (c.double_at-known.ensures ∙ none));
      signs = signs_none signed;
    }

pub overflow_cast-end : goal.overflow_cast-end
overflow_cast-end c = omega (arith, (set_there (goal.at.overflow_cast-end c).Start).good.entries)

pub sign_set-mark-requires : goal.sign_set-mark-requires
sign_set-mark-requires c =
    record {
      within = (set_there (goal.at.sign_set-mark-requires c).Start).good.within;
      positions = c.requires.positions;
    }

pub store_double-requires : goal.store_double-requires
store_double-requires c = room (goal.at.store_double-requires c).Start

pub returns : goal.returns
returns c =
    let a = c.args in
    let is =
    c.sign_set-mark.ensures
    ∙ ap (λ (n : ℕ). signature (between n (get_or a.sets.now.ends.now a.s 0) a.sets.now.items.now)) c.start_of-start.ensures
    ∙ sym (ap (λ (set : List ℕ). signature set) (set_there (goal.at.returns c).Start).is)
    in
    record {
      is = is;
      signs = signs_store c.requires.room.signed (place (goal.at.returns c).Start) is c.store_double.ensures;
    }
