-- The first part that fails among some is the first among more, where those before them pass.
use Rattle.std.proofs.Common.{ℕ, List, [], ◌∷◌, ◌++◌, refl, ap, sym, ◌∙◌, append_assoc}
use Rattle.std.proofs.lemmas.List.Elements.{All-nil, All-cons, All-append}
use Rattle.derivation_log.specs.declared.source.Run.{Run}
use Rattle.derivation_log.specs.declared.part.Part.{Part}
use Rattle.derivation_log.specs.Certificates.{Certificate}
use Rattle.derivation_log.specs.CertificateParts.{full_kind}
use Rattle.derivation_log.specs.Validity.{Trial, Passes, trials, Keeps}
use Rattle.cert_checker.specs.declared.refusal.CheckRefusal.{CheckRefusal}
use Rattle.cert_checker.specs.declared.refusal.CheckRefusal.TheVariants.{Refused, NoMemory}
use Rattle.cert_checker.specs.Judging.{AllPass, IsFirstOf, IsRefusedAt, IsRefusalOf, parts_at}

module _ (c : Certificate) where
  -- a part that fails is the first from itself on
  pub first-here : (t : Trial) (later : List Trial) → ¬ Passes full_kind c t → IsFirstOf c (t ∷ later) t
  first-here t later fails = record {
    earlier = [];
    later = later;
    order = refl;
    passed = All-nil (Passes full_kind c);
    fails = fails;
  }

  first-before : (ts us : List Trial) (t : Trial) → IsFirstOf c ts t → IsFirstOf c (ts ++ us) t
  first-before ts us t first = record {
    earlier = first.earlier;
    later = first.later ++ us;
    order = ap (λ (l : List Trial). l ++ us) first.order ∙ append_assoc first.earlier (t ∷ first.later) us;
    passed = first.passed;
    fails = first.fails;
  }

  first-behind : (ts us : List Trial) (t : Trial) → AllPass c ts → IsFirstOf c us t → IsFirstOf c (ts ++ us) t
  first-behind ts us t pass first = record {
    earlier = ts ++ first.earlier;
    later = first.later;
    order = ap (λ (l : List Trial). ts ++ l) first.order ∙ sym (append_assoc ts first.earlier (t ∷ first.later));
    passed = All-append (Passes full_kind c) ts first.earlier pass first.passed;
    fails = first.fails;
  }

  -- more parts behind those that were judged
  pub refused-before : (ts us : List Trial) (e : CheckRefusal) → IsRefusedAt c ts e → IsRefusedAt c (ts ++ us) e
  refused-before ts us (Refused run k p) first = first-before ts us (record { run = run; class = k; part = p }) first
  refused-before ts us NoMemory first = tt

  -- and before them, if they pass
  pub refused-behind : (ts us : List Trial) (e : CheckRefusal) → AllPass c ts → IsRefusedAt c us e → IsRefusedAt c (ts ++ us) e
  refused-behind ts us (Refused run k p) pass first = first-behind ts us (record { run = run; class = k; part = p }) pass first
  refused-behind ts us NoMemory pass first = tt

  pub one-passes : (run : Run) (k : ℕ) (p : Part) → Keeps full_kind c run k p → AllPass c (parts_at run k (p ∷ []))
  one-passes run k p keeps =
      All-cons (Passes full_kind c) (record { run = run; class = k; part = p }) [] keeps (All-nil (Passes full_kind c))

  pub both-pass : (ts us : List Trial) → AllPass c ts → AllPass c us → AllPass c (ts ++ us)
  both-pass ts us pass also = All-append (Passes full_kind c) ts us pass also

  -- among all parts
  pub refusal-of : (e : CheckRefusal) → IsRefusedAt c (trials c) e → IsRefusalOf c e
  refusal-of (Refused run k p) first = record {
    earlier = first.earlier;
    later = first.later;
    order = first.order;
    passed = first.passed;
    fails = first.fails;
  }
  refusal-of NoMemory first = tt
