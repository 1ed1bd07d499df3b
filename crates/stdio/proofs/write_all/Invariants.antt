-- What was taken so far was appended, the rest is still to be written, and each round writes a byte at least.
use Rattle.std.proofs.Common.{◌≡◌, ◌-◌, ◌≤◌, length, take, drop}
use Rattle.std.specs.Io.KnownBytes.{Appends}
use Rattle.stdio.proofs.write_all.Given as goal

abbrev pub invariant-loop-writer : goal.invariant-loop-writer
invariant-loop-writer g l = record {
  fits : length l.rest ≤ length l.bytes;
  is : l.rest ≡ drop (length l.bytes - length l.rest) l.bytes;
  sent : Appends (g.W.Write.contents l.initial.writer) (g.W.Write.contents l.writer) (take (length l.bytes - length l.rest) l.bytes);
}

abbrev pub decreases-loop-writer : goal.decreases-loop-writer
decreases-loop-writer g l = length l.rest
