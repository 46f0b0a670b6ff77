use Rattle.std.proofs.Common.{◌≡◌, ◌-◌, ◌^◌, drop, map}
use Rattle.rans_core.specs.Coder.{all_pushed}
use Rattle.symbol_coding.specs.Symbols.{interval_of}
use Rattle.symbol_coding.proofs.writing.code.Given as goal

abbrev pub invariant-loop-k : goal.invariant-loop-k
invariant-loop-k l = l.encoder ≡ record { bits = l.bits; state = all_pushed 4 (2 ^ l.bits) (map (interval_of l.table) (drop (l.last - l.k) l.symbols)) }
