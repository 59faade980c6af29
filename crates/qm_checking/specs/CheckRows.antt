-- Worked checks, from words and bytes to bytes, under SHA-256. The proofs and the root are those of an independent model.
use Rattle.std.specs.Prelude.{◌≡◌, ◌++◌, List, [], ◌∷◌, map, Option, Some, None, option_map, codes, refl}
use Rattle.std.specs.Int.Count.{count_leading_zeros}
use Rattle.sha2.specs.Sha256.{sha256, digest_bytes, hash_after, compress, rounds, schedule, first_words}
use Rattle.hex.specs.Hex.{decode_pairs}
use Rattle.qm_model.specs.Operations.{Bytes, four_bytes, eight_bytes}
use Rattle.qm_model.specs.Forms.{variable, number_of_four, number_of_eight}
use Rattle.qm_model.specs.Mmr.{digits_below}
use Rattle.qm_checking.specs.Checking.{Asked, asked_of, check_of, check_line}
use lib.Count.{ones, ones_in}

abbrev root : Bytes
root = codes "96c3d11f4bbef97b7ea73913369769cfe0f897f4f340635b7600c308f52f63c1"

-- the exports of two keys, of which the second is absent
abbrev first : Bytes
first = codes "0100000000000000010e0000000000000000000000000000000000000000000000000000000000000000000000000000040000000000000000000000026e290ec1b71d702d95e7193ca20dc9da03b9bcdc2645c140bddcd6d81480bb3a05ecda205f9ca8d56c858a5b41b6ccd490a629718e70cbc7e88a5884633f18920001ddf85bb1c4eec161ade630b1299f79f05596e0001538ffcfc51ab3cad577a545bd789207130e68b491827880c77bf349de0cdafebcc2f472cf002ad6599e8cf70000000163"

abbrev second : Bytes
second = codes "0200000000000000010e0000000000000000000000000000000000000000000000000000000000000000000000000000040000000000000000000000026e290ec1b71d702d95e7193ca20dc9da03b9bcdc2645c140bddcd6d81480bb3a05ecda205f9ca8d56c858a5b41b6ccd490a629718e70cbc7e88a5884633f18920001ddf85bb1c4eec161ade630b1299f79f05596e0001538ffcfc51ab3cad577a545bd789207130e68b491827880c77bf349de0cdafebcc2f472cf002ad6599e8cf7000000016100000001010000000163"

abbrev answer : List Bytes → Bytes → Option Bytes
answer words input = option_map (λ (asked : Asked). check_line (check_of sha256 8 variable 32 asked input)) (asked_of 32 words)

abbrev held : Bytes → Bytes → Option Bytes
held value input = answer (codes "mmr" ∷ root ∷ codes "held" ∷ codes "61" ∷ value ∷ []) input

abbrev absent : Bytes → Option Bytes
absent input = answer (codes "mmr" ∷ root ∷ codes "absent" ∷ codes "62" ∷ []) input

checks : held (codes "01") (first ++ 10 ∷ []) ∷ held (codes "01") first ∷ held (codes "02") first ∷ absent first ∷ absent second ∷ held (codes "01") [] ∷ held (codes "01") (first ++ codes "00") ∷ held (codes "01") (first ++ 10 ∷ 10 ∷ []) ∷ held (codes "01") (codes "0") ∷ []
    ≡ map (λ t. Some t) (codes "yes" ∷ codes "yes" ∷ codes "no" ∷ codes "no" ∷ codes "yes" ∷ codes "no proof" ∷ codes "no proof" ∷ codes "no proof" ∷ codes "no proof" ∷ [])
unfolding decode_pairs digits_below ones ones_in count_leading_zeros four_bytes eight_bytes number_of_four number_of_eight sha256 digest_bytes hash_after compress rounds schedule first_words
checks = refl

-- words that ask nothing
none_asked : map (asked_of 32) ((codes "mmr" ∷ []) ∷ (codes "mmx" ∷ root ∷ codes "absent" ∷ codes "62" ∷ []) ∷ (codes "mmr" ∷ codes "96" ∷ codes "absent" ∷ codes "62" ∷ []) ∷ (codes "mmr" ∷ root ∷ codes "absent" ∷ []) ∷ (codes "mmr" ∷ root ∷ codes "held" ∷ codes "61" ∷ []) ∷ (codes "mmr" ∷ root ∷ codes "absent" ∷ codes "6" ∷ []) ∷ [])
    ≡ None ∷ None ∷ None ∷ None ∷ None ∷ None ∷ []
unfolding decode_pairs
none_asked = refl
