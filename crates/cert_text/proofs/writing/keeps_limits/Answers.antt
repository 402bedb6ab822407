use Rattle.cert_text.proofs.Limits.{IsWritable-parts}
use Rattle.cert_text.proofs.writing.keeps_limits.Goals as goal

pub returns : goal.returns
returns c version =
    IsWritable-parts c.args.cert.now c.pres.result.now c.answer.result.now c.pcp.result.now c.pres.ensures c.answer.ensures
    c.version-version.ensures.certificate
    (record {
      names = c.names-names.ensures.each;
      presentation = c.names-names.ensures.presentation;
      limits =
          c.names-names.ensures.limits;
    })
    c.pcp.ensures.presentation c.rank-rank.ensures.presentation c.pcp.ensures.answer version
