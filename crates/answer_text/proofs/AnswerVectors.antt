-- Worked texts: those of the dihedral group of order 8, the quaternion group and the cyclic group of order 9, with a second generator that
-- is the inverse of the first.
use Rattle.std.proofs.Common.{◌≡◌, codes, refl}
use Rattle.std.specs.Fmt.{digits}
use Rattle.serde_json.proofs.OnLiterals.{serde_json_on_literals}
use Rattle.pq_base.proofs.vectors.Answers.{answer_of_order_eight, answer_of_quaternion, answer_of_cycle}
use Rattle.answer_text.specs.AnswerText.{answer_text}
use Rattle.answer_text.specs.AnswerData.{answer_json}

text-dihedral_of_order_eight : answer_text answer_of_order_eight
    ≡ codes "prime 2\nclass 2\nrank 3\norder 2^3\ngenerator a1 weight 1 from image x\ngenerator a2 weight 1 from image y\ngenerator a3 weight 2 from [a2,a1]\nrelation [a2,a1] = a3\nimage x = a1\nimage y = a2\nend\n"
unfolding answer_text digits
text-dihedral_of_order_eight = refl

text-quaternion : answer_text answer_of_quaternion
    ≡ codes "prime 2\nclass 2\nrank 3\norder 2^3\ngenerator a1 weight 1 from image x\ngenerator a2 weight 1 from image y\ngenerator a3 weight 2 from [a2,a1]\nrelation a1^2 = a3\nrelation a2^2 = a3\nrelation [a2,a1] = a3\nimage x = a1\nimage y = a2\nend\n"
unfolding answer_text digits
text-quaternion = refl

text-cycle_of_order_nine : answer_text answer_of_cycle
    ≡ codes "prime 3\nclass 2\nrank 2\norder 3^2\ngenerator a1 weight 1 from image x\ngenerator a2 weight 2 from a1^3\nrelation a1^3 = a2\nimage x = a1\nimage y = a1^2*a2^2\nend\n"
unfolding answer_text digits
text-cycle_of_order_nine = refl

json-dihedral_of_order_eight : answer_json answer_of_order_eight
    ≡ codes "{\"class\":2,\"commutators\":[[2,1,[[3,1]]]],\"definitions\":[[\"image\",\"x\"],[\"image\",\"y\"],[\"commutator\",2,1]],\"images\":[[\"x\",[[1,1]]],[\"y\",[[2,1]]]],\"order\":[2,3],\"powers\":[],\"prime\":2,\"rank\":3,\"weights\":[1,1,2]}\n"
unfolding answer_json serde_json_on_literals digits
json-dihedral_of_order_eight = refl
