-- `text::number_lines::put_refusal` meets its contract: number and detail are the refusal table's.
use mathlib.Core.Path.{ap₂, subst}
use Prim.Native.Nat.{ℕ}
use mathlib.Core.List.{List}
use Rattle.lists.specs.Writing.{Put}
use Rattle.text.specs.Lines.{refused_line}
use Rattle.text.proofs.number_lines.put_refusal.Goals as goal

pub returns : goal.returns
returns c =
    let text = c.args.text.now in
    record {
      put = subst (λ (line : List ℕ). Put text 0 line c.put_refused.result c.put_refused.new.text)
          (ap₂ refused_line c.head_of-head.ensures.0 c.head_of-head.ensures.1) c.put_refused.ensures.put;
      upper_bound = c.put_refused.ensures.upper_bound;
    }
