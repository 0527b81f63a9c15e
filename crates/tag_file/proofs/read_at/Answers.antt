-- `tag_file::read_at` meets its contract.
use mathlib.Core.Path.{sym, ◌∙◌}
use Prim.Native.Nat.{◌<◌, ◌+◌}
use native.Mathlib.Omega.{arith}
use lib.ListN.{get_or}
use Rattle.tag_file.proofs.ReadLaws.{read_end, read_short, read_left, read_right, read_other}
use Rattle.tag_file.proofs.read_at.Goals as goal
use Rattle.tag_file.proofs.read_at.Goals.{After-from-second}

first_low : (q : After-from-second) → get_or q.args.file.now q.args.at 0 < 256
first_low q = (q.type_inv.file q.args.at).fits

second_low : (q : After-from-second) → get_or q.args.file.now (q.args.at + 1) 0 < 256
second_low q = (q.type_inv.file (q.args.at + 1)).fits

pub returns-then-at-len : goal.returns-then-at-len
returns-then-at-len c =
    let a = c.args in
    sym (read_end a.file.now a.at (omega arith))

pub returns-then-at-len-2 : goal.returns-then-at-len-2
returns-then-at-len-2 c =
    let a = c.args in
    sym (read_short a.file.now a.at (λ e. omega arith) (omega arith))

pub returns-then-len-at-lt-HEAD_LENGTH : goal.returns-then-len-at-lt-HEAD_LENGTH
returns-then-len-at-lt-HEAD_LENGTH c =
    let a = c.args in
    sym (read_short a.file.now a.at (λ e. omega arith) (omega arith))

pub returns-then-mark-eq19284 : goal.returns-then-mark-eq19284
returns-then-mark-eq19284 c =
    let a = c.args in
    c.record_at.ensures
    ∙ sym (read_left a.file.now a.at (omega arith) (first_low (goal.at.returns-then-mark-eq19284 c).After-from-second) (second_low (goal.at.returns-then-mark-eq19284 c).After-from-second)
    (omega (arith, c.from-first.ensures, c.from-second.ensures, c.if-mark-eq19284.true)))

pub returns-then-mark-eq21323 : goal.returns-then-mark-eq21323
returns-then-mark-eq21323 c =
    let a = c.args in
    c.record_at-then-mark-eq21323.ensures
    ∙ sym (read_right a.file.now a.at (omega arith) (first_low (goal.at.returns-then-mark-eq21323 c).After-from-second) (second_low (goal.at.returns-then-mark-eq21323 c).After-from-second)
    (omega (arith, c.from-first.ensures, c.from-second.ensures, c.if-mark-eq21323.true)))

pub returns : goal.returns
returns c =
    let a = c.args in
    let one = c.from-first.ensures in
    let two = c.from-second.ensures in
    sym
    (read_other a.file.now a.at (omega arith) (first_low (goal.at.returns c).After-from-second) (second_low (goal.at.returns c).After-from-second)
    (λ e. c.if-mark-eq19284.false (omega (arith, one, two))) (λ e. c.if-mark-eq21323.false (omega (arith, one, two))))
