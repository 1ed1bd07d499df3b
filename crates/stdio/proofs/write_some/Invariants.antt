-- A write that failed or took nothing appended nothing.
use Rattle.std.proofs.Common.{◌≡◌, IfOk}
use Rattle.std.specs.Io.KnownBytes.{Keeps}
use Rattle.stdio.proofs.write_some.Given as goal

abbrev pub invariant-loop : goal.invariant-loop
invariant-loop g l = Keeps (g.W.Write.contents l.initial.writer) (g.W.Write.contents l.writer) × IfOk l.last (λ n. n ≡ 0)
