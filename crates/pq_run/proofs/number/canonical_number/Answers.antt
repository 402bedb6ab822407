use Rattle.std.proofs.Common.{rules, sym, ◌∙◌, subst}
use Rattle.pq_run.specs.Number.{BeginsCanonically}
use Rattle.pq_run.proofs.Numbers.{canonical_parsed, begins-decimal, canonical_refused, same_number}
use Rattle.pq_run.proofs.number.canonical_number.Goals as goal

pub returns-then-not-begins_canonically-clause-none :
    goal.returns-then-not-begins_canonically-clause-none
returns-then-not-begins_canonically-clause-none c n small spelled =
    let begins : BeginsCanonically c.as_bytes.result.now = subst BeginsCanonically (sym (c.as_bytes.ensures.value ∙ spelled))
    (begins-decimal n small) in
    let told = c.begins_canonically.ensures.1 begins in
    search rules

pub returns-in-Ok-clause-some : goal.returns-in-Ok-clause-some
returns-in-Ok-clause-some c =
    let told = c.begins_canonically.ensures.0 (search rules) in
    canonical_parsed c.args.text.now c.in-Ok.n c.parse.result (subst BeginsCanonically c.as_bytes.ensures.value told) c.in-Ok.is
    c.parse.ensures.value.0

pub returns-in-Err-clause-none : goal.returns-in-Err-clause-none
returns-in-Err-clause-none c = canonical_refused c.args.text.now c.parse.result c.in-Err.field-0 c.in-Err.is c.parse.ensures.value.0

pub returns-in-Ok-clause-only : goal.returns-in-Ok-clause-only
returns-in-Ok-clause-only c m small at_m =
    let told = c.begins_canonically.ensures.0 (search rules) in
    let at_n = canonical_parsed c.args.text.now c.in-Ok.n c.parse.result (subst BeginsCanonically c.as_bytes.ensures.value told) c.in-Ok.is
    c.parse.ensures.value.0 in
    same_number c.args.text.now m c.in-Ok.n small (search rules) at_n at_m
