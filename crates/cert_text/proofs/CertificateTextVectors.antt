-- The text of the certificate that the dihedral group of order sixteen is the largest quotient of class 3 of the group of two
-- involutions.
use Rattle.std.proofs.Common.{◌≡◌, ◌≤◌, ℕ, zero, suc, ℤ, pos, List, [], ◌∷◌, ◌++◌, All, length, drop, codes, refl, ap, ◌∙◌, inl, lit<, lit≤}
use Rattle.std.proofs.lemmas.List.Elements.{All-nil, All-cons}
use Rattle.std.specs.Fmt.{digits}
use Rattle.pq_base.proofs.vectors.LPresentations.{x_and_y, dihedral}
use Rattle.pq_base.proofs.vectors.Answers.{answer_of_order_sixteen, order_sixteen_is_answer}
use Rattle.pq_base.specs.Name.{IsName}
use Rattle.lpres_reader.specs.Limits.{AreShort}
use Rattle.pc_presentation.specs.declared.overlap.Overlap.TheVariants.{Left, Right}
use Rattle.lpres_reader.specs.CanonicalText.{word_text}
use Rattle.derivation_log.specs.declared.source.RowSource.TheVariants.{Test, Fixed}
use Rattle.derivation_log.specs.Certificates.{StepLines, Certificate}
use Rattle.answer_text.proofs.Splits.{first-apart, nil-split}
use Rattle.cert_text.specs.CertificateText.{certificate_text, HasText, IsWritable}
use Rattle.answer_text.specs.LineByLine.{IsWhole}
use Rattle.cert_text.specs.CertificatePlaces.{Place, HasForm, IsEnd}
use Rattle.cert_text.specs.CertificatePlaces.Place.{for_version, for_generators}
use Rattle.cert_text.specs.CertificatePlaces.HasForm.{version}
use Rattle.cert_text.specs.CertificateFaults.{IsFaultLine}

abbrev second_step : StepLines
second_step = record {
  sources = Fixed 1 ∷ Fixed 2 ∷ [];
  tails = record { tail = 2; kept = []; sums = (1, 1) ∷ [] } ∷ record { tail = 3; kept = []; sums = (2, 1) ∷ [] } ∷ [];
}

abbrev third_step : StepLines
third_step = record {
  sources = Test (Left 2 1) ∷ Test (Right 2 1) ∷ Fixed 1 ∷ Fixed 2 ∷ [];
  tails =
      record { tail = 2; kept = (1, 1) ∷ []; sums = (1, 1) ∷ (2, 1) ∷ [] }
      ∷ record { tail = 3; kept = (1, 1) ∷ []; sums = (2, 1) ∷ [] }
      ∷ record { tail = 4; kept = []; sums = (3, 1) ∷ [] }
      ∷ record { tail = 5; kept = []; sums = (4, 1) ∷ [] } ∷ [];
}

abbrev of_two_involutions : Certificate
of_two_involutions = record {
  version = 1;
  presentation = dihedral;
  prime = 2;
  class = 3;
  iterated = [];
  whole = record { sources = []; tails = [] } ∷ second_step ∷ third_step ∷ [];
  answer = answer_of_order_sixteen;
}

text-two_involutions : certificate_text of_two_involutions
    ≡ codes "certificate 1\ngenerators x y\nfixed x^2\nfixed y^2\nprime 2\nclass 3\nrun whole\nstep 1\nstep 2\nsource fixed 1\nsource fixed 2\ntail 2 = 0 by 1:1\ntail 3 = 0 by 2:1\nstep 3\nsource left 2 1\nsource right 2 1\nsource fixed 1\nsource fixed 2\ntail 2 = 1:1 by 1:1 2:1\ntail 3 = 1:1 by 2:1\ntail 4 = 0 by 3:1\ntail 5 = 0 by 4:1\nanswer\nprime 2\nclass 3\nrank 4\norder 2^4\ngenerator a1 weight 1 from image x\ngenerator a2 weight 1 from image y\ngenerator a3 weight 2 from [a2,a1]\ngenerator a4 weight 3 from [a3,a1]\nrelation a3^2 = a4\nrelation [a2,a1] = a3\nrelation [a3,a1] = a4\nrelation [a3,a2] = a4\nimage x = a1\nimage y = a2\nend\n"
unfolding certificate_text word_text digits
text-two_involutions = refl

-- it is within the limits of texts
x_and_y-names : All IsName x_and_y
x_and_y-names =
    All-cons IsName (120 ∷ []) ((121 ∷ []) ∷ []) (record { text = refl; count = lit≤ tt })
    (All-cons IsName (121 ∷ []) [] (record { text = refl; count = lit≤ tt }) (All-nil IsName))

abbrev IsShort : List ℤ → Type 0
IsShort w = length w ≤ 65536

dihedral-text : HasText dihedral
dihedral-text = record {
  names = x_and_y-names;
  presentation = record {
    distinct = order_sixteen_is_answer.distinct;
    fixed_words = ((lit< tt, (lit< tt, tt)), ((lit< tt, (lit< tt, tt)), tt));
    iterated_words = tt;
    endo_words = tt;
  };
  limits = record {
    some_generator = lit≤ tt;
    generators = lit≤ tt;
    name_lengths = All-cons (λ n. length n ≤ 32) (120 ∷ []) ((121 ∷ []) ∷ []) (lit≤ tt)
        (All-cons (λ n. length n ≤ 32) (121 ∷ []) [] (lit≤ tt) (All-nil (λ n. length n ≤ 32)));
    fixed = lit≤ tt;
    iterated = lit≤ tt;
    endos = lit≤ tt;
    fixed_letters = All-cons IsShort (pos 1 ∷ pos 1 ∷ []) ((pos 2 ∷ pos 2 ∷ []) ∷ []) (lit≤ tt)
        (All-cons IsShort (pos 2 ∷ pos 2 ∷ []) [] (lit≤ tt) (All-nil IsShort));
    iterated_letters = All-nil IsShort;
    endo_letters = All-nil AreShort;
    total = lit≤ tt;
  };
}

two_involutions-writable : IsWritable of_two_involutions
two_involutions-writable = record {
  version = refl;
  certificate = record {
    version = inl refl;
    class_from_one = lit≤ tt;
    class_limit = lit≤ tt;
    prime = refl;
    names = refl;
    one_run = λ one. refl;
    iterated_steps = refl;
    whole_steps = refl;
  };
  presentation = dihedral-text;
  answer = record {
    prime = inl refl;
    rank_limit = lit≤ tt;
    names = (record { text = refl; count = lit≤ tt }, (record { text = refl; count = lit≤ tt }, tt));
    answer = order_sixteen_is_answer;
  };
}

-- a certificate of another version has its fault at the first line
second_version : (l rest : List ℕ) (Q : Place) → HasForm for_version l Q → codes "certificate 2\n" ≡ l ++ 10 ∷ rest → ⊥
unfolding digits
second_version l rest Q version e = first-apart 50 49 _ _ refl (ap (λ (t : List ℕ). drop 12 t) e)

fault-second_version : IsFaultLine (codes "certificate 2\n") 1
fault-second_version = inl (record {
  begins = tt;
  no_further = λ b. second_version b.0 b.2 b.1 b.3 b.4;
  not_whole = none;
}) where
  none : (m : ℕ) → ¬ IsWhole Place HasForm IsEnd for_version (codes "certificate 2\n") m
  none zero w = w.0
  none (suc m) w = second_version w.0 w.2 w.1 w.3 w.4

-- and bytes that end behind the first line have theirs at the second
no_generators : (l rest : List ℕ) → [] ≡ l ++ 10 ∷ rest → ⊥
no_generators l rest e = nil-split 10 l rest e

fault-nothing_follows : IsFaultLine (codes "certificate 1\n") 2
unfolding digits
fault-nothing_follows = inl (record {
  begins = (codes "certificate 1", for_generators, [], version, refl, tt);
  no_further = λ b. no_generators b.5.0 b.5.2 (rest b.0 b.2 b.1 b.3 b.4 ∙ b.5.4);
  not_whole = none;
}) where
  rest : (l rest : List ℕ) (Q : Place) → HasForm for_version l Q → codes "certificate 1\n" ≡ l ++ 10 ∷ rest → [] ≡ rest
  rest l more Q version e = ap (λ (t : List ℕ). drop 14 t) e

  none : (m : ℕ) → ¬ IsWhole Place HasForm IsEnd for_version (codes "certificate 1\n") m
  none zero w = w.0
  none (suc zero) w = ends w.1 w.0 w.3 w.5.0 where
    ends : (Q : Place) (l : List ℕ) → HasForm for_version l Q → IsEnd Q → ⊥
    ends Q l version end = end
  none (suc (suc m)) w = no_generators w.5.0 w.5.2 (rest w.0 w.2 w.1 w.3 w.4 ∙ w.5.4)
