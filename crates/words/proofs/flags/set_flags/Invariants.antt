-- `words::flags::set_flags` meets its contract. The invariant: the flags of the first words of the part are set.
use lib.ListN.{take}
use Rattle.words.specs.flags.Flags.{FlagsSet}
use Rattle.words.proofs.flags.set_flags.Given as goal

abbrev pub invariant-loop-s : goal.invariant-loop-s
invariant-loop-s l = FlagsSet l.flag (take l.s-index l.part) l.initial.flags l.flags
