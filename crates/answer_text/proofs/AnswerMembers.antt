-- The members of an answer's JSON value, put one after the other, stand in the order in which they were put.
use Rattle.std.proofs.Common.{◌≡◌, codes, refl, ap, ◌∙◌}
use Rattle.serde_json.specs.Data.{Data, Members, member, no_members, put}

pub put-members : (m0 m1 m2 m3 m4 m5 m6 m7 m8 m9 : Members) (d1 d2 d3 d4 d5 d6 d7 d8 d9 : Data) → m0 ≡ no_members
    → m1 ≡ put (codes "class") d1 m0 → m2 ≡ put (codes "commutators") d2 m1 → m3 ≡ put (codes "definitions") d3 m2
    → m4 ≡ put (codes "images") d4 m3 → m5 ≡ put (codes "order") d5 m4 → m6 ≡ put (codes "powers") d6 m5
    → m7 ≡ put (codes "prime") d7 m6 → m8 ≡ put (codes "rank") d8 m7 → m9 ≡ put (codes "weights") d9 m8
    → m9 ≡ member (codes "class") d1 (member (codes "commutators") d2 (member (codes "definitions") d3 (member (codes "images") d4
    (member (codes "order") d5
    (member (codes "powers") d6 (member (codes "prime") d7 (member (codes "rank") d8 (member (codes "weights") d9 no_members))))))))
put-members m0 m1 m2 m3 m4 m5 m6 m7 m8 m9 d1 d2 d3 d4 d5 d6 d7 d8 d9 e0 e1 e2 e3 e4 e5 e6 e7 e8 e9 =
    let f1 = e1 ∙ ap (λ (m : Members). put (codes "class") d1 m) e0 in
    let f2 = e2 ∙ ap (λ (m : Members). put (codes "commutators") d2 m) f1 in
    let f3 = e3 ∙ ap (λ (m : Members). put (codes "definitions") d3 m) f2 in
    let f4 = e4 ∙ ap (λ (m : Members). put (codes "images") d4 m) f3 in
    let f5 = e5 ∙ ap (λ (m : Members). put (codes "order") d5 m) f4 in
    let f6 = e6 ∙ ap (λ (m : Members). put (codes "powers") d6 m) f5 in
    let f7 = e7 ∙ ap (λ (m : Members). put (codes "prime") d7 m) f6 in
    let f8 = e8 ∙ ap (λ (m : Members). put (codes "rank") d8 m) f7 in
    e9 ∙ ap (λ (m : Members). put (codes "weights") d9 m) f8

pub members-same : (d1 d2 d3 d4 d5 d6 d7 d8 d9 f1 f2 f3 f4 f5 f6 f7 f8 f9 : Data)
    → d1 ≡ f1 → d2 ≡ f2 → d3 ≡ f3 → d4 ≡ f4 → d5 ≡ f5 → d6 ≡ f6 → d7 ≡ f7 → d8 ≡ f8 → d9 ≡ f9
    → member (codes "class") d1 (member (codes "commutators") d2 (member (codes "definitions") d3 (member (codes "images") d4
    (member (codes "order") d5
    (member (codes "powers") d6 (member (codes "prime") d7 (member (codes "rank") d8 (member (codes "weights") d9 no_members))))))))
    ≡ member (codes "class") f1 (member (codes "commutators") f2 (member (codes "definitions") f3 (member (codes "images") f4
    (member (codes "order") f5
    (member (codes "powers") f6 (member (codes "prime") f7 (member (codes "rank") f8 (member (codes "weights") f9 no_members))))))))
members-same d1 d2 d3 d4 d5 d6 d7 d8 d9 f1 f2 f3 f4 f5 f6 f7 f8 f9 h1 h2 h3 h4 h5 h6 h7 h8 h9 = rw (h1, h2, h3, h4, h5, h6, h7, h8, h9) refl
