use Rattle.std.proofs.Common.{[]}
use Rattle.cert_checker.proofs.judging.Judging.{first-here}
use Rattle.cert_checker.proofs.judged.judged.Goals as goal

pub returns-else-keeps-clause-refused : goal.returns-else-keeps-clause-refused
returns-else-keeps-clause-refused c =
    first-here c.args._cert.now (record { run = c.args.run; class = c.args.class; part = c.args.part }) []
    (λ keeps. let yes = c.requires.1 keeps in let no = c.if-keeps.false in cc)
