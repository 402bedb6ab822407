-- The limits of the engine: how large inputs and answers may be. The constants of `limits` have these values.
use Rattle.std.specs.Prelude.{ℕ}

-- the most bytes of a presentation
abbrev pub max_presentation_bytes : ℕ
max_presentation_bytes = 4194304

-- the most bytes of a certificate
abbrev pub max_certificate_bytes : ℕ
max_certificate_bytes = 268435456

-- the most bytes of a name
abbrev pub max_name_bytes : ℕ
max_name_bytes = 32

-- the most given generators, each of which has a name
abbrev pub max_names : ℕ
max_names = 32

-- the most fixed relators
abbrev pub max_fixed : ℕ
max_fixed = 4096

-- the most iterated relators
abbrev pub max_iterated : ℕ
max_iterated = 4096

-- the most endomorphisms
abbrev pub max_endos : ℕ
max_endos = 16

-- the greatest size of a written exponent
abbrev pub max_exponent : ℕ
max_exponent = 65536

-- the most letters of a word, of each part of it and of each partial product
abbrev pub max_letters : ℕ
max_letters = 65536

-- the most letters of all relators and images together
abbrev pub max_total_letters : ℕ
max_total_letters = 4194304

-- the most brackets that are open at one place
abbrev pub max_open_brackets : ℕ
max_open_brackets = 64

-- the greatest class, and so the greatest weight of a generator of an answer
abbrev pub max_class : ℕ
max_class = 60

-- the greatest rank of an answer
abbrev pub max_rank : ℕ
max_rank = 100

-- the greatest number of a sample
abbrev pub max_sample : ℕ
max_sample = 999999
