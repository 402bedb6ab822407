use Rattle.cert_checker.proofs.words.CarriedWords.{killed-carried}
use Rattle.cert_checker.proofs.carried.carries_one.Goals as goal

pub returns-clause-carried : goal.returns-clause-carried
returns-clause-carried c =
    killed-carried c.args.cover.now.answer c.pcp-cover.ensures.cover.answer c.requires.consistent c.args.word.now c.requires.letters
    c.relator_row.result (c.relator_row.ensures.killed c.requires.consistent)
