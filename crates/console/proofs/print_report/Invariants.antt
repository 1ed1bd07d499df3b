-- What was written so far is the front of what is to be printed, and what the calls still to come fill is the rest of it.
use Rattle.std.proofs.Common.{◌≡◌, ◌≤◌, length, take, drop, ◌-◌, ◌*◌}
use Rattle.std.specs.Io.KnownBytes.{Appends}
use Rattle.spec.specs.Program.{printed}
use Rattle.report.specs.Session.{until_refused}
use Rattle.console.proofs.print_report.Given as goal

abbrev pub invariant-loop : goal.invariant-loop
invariant-loop g l = record {
  cells : length l.cells ≡ 8192;
  text : length l.text ≡ 65536;
  few : l.count ≤ l.counter * 65536;
  within : l.count ≤ length (printed l.job);
  rest : drop l.count (printed l.job) ≡ until_refused (1280 - l.counter) l.at l.job l.cells l.text;
  sent : Appends (g.W.Write.contents l.initial.writer) (g.W.Write.contents l.writer) (take l.count (printed l.job));
}
