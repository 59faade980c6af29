-- Worked rows.
use Rattle.std.specs.Prelude.{◌≡◌, List, [], ◌∷◌, ◌++◌, None, Some, map, refl, codes}
use Rattle.std.specs.Fmt.{digits}
use Rattle.std.specs.List.{join_with_byte}
use Rattle.hex.specs.Hex.{decode_pairs, encode_with}
use Rattle.qm_model.specs.Operations.{Bytes, four_bytes, eight_bytes}
use Rattle.qm_model.specs.Own.{no_log}
use Rattle.qm_model.specs.Policies.{Policy, policies}
use Rattle.qm_model.specs.Refused.{NoDatabase}
use Rattle.qm_model.specs.Forms.{variable}
use Rattle.qm_model.specs.Live.{floor}
use Rattle.qm_model.specs.Mmr.{mmr, digits_below}
use Rattle.qm_model.specs.Proofs.{ops_proof, pins_at}
use Rattle.qm_model.specs.Schemes.{Scheme}
use Rattle.qm_machine.specs.Grammar.{commands_in}
use Rattle.qm_machine.specs.Lines.{Commit, Info, Done, Refuses}
use Rattle.qm_machine.specs.Machine.{initial}
use Rattle.qm_fill.specs.Draws.{draw, draws}
use Rattle.qm_fill.specs.Commands.{key_of, write_of, settling, round_with, commands}
use Rattle.qm_fill.specs.Summary.{exchanges, counts_of, summary, summary_text}
use Rattle.qm_fill.specs.Words.{fill_of_words}

-- the first draws after the seed 0
first_draws : draws 0 8 ≡ 0x3c6ef35f ∷ 0x47502932 ∷ 0xd1ccf6e9 ∷ 0xaaf95334 ∷ 0x6252e503 ∷ 0x9f2ec686 ∷ 0x57fe6c2d ∷ 0xa3d95fa8 ∷ []
unfolding draw
first_draws = refl

abbrev lines : List Bytes → Bytes
lines ls = join_with_byte 10 ls ++ 10 ∷ []

-- a fill of one round with the seed 0, as the lines of an input
one_round : commands 0 1 ≡ commands_in (lines (codes "open" ∷ codes "batch" ∷ codes "put 1 006e 3c6ef35f" ∷ codes "put 1 0350 47502932" ∷ codes "put 1 01cc d1ccf6e9" ∷ codes "put 1 02f9 aaf95334" ∷ codes "put 1 0252 6252e503" ∷ codes "del 1 032e" ∷ codes "put 1 03fe 57fe6c2d" ∷ codes "put 1 03d9 a3d95fa8" ∷ codes "merkleize 1 prop none" ∷ codes "apply 1" ∷ codes "sync" ∷ codes "crash 0" ∷ codes "open" ∷ codes "info" ∷ codes "root" ∷ codes "destroy" ∷ []))
unfolding draw key_of write_of settling round_with four_bytes decode_pairs
one_round = refl

-- a commit after each sixteenth round
fifteenth : settling 15 ≡ []
unfolding settling
fifteenth = refl

sixteenth : settling 16 ≡ Commit ∷ []
unfolding settling
sixteenth = refl

-- a hash that is the same of all bytes, and a root under which lists of one length collide, which these rows do not tell from a real one
abbrev same : Bytes → Bytes
same bytes = 0x00 ∷ 0x2a ∷ []

abbrev toy : Scheme
toy = record { form = variable; shape = mmr; hash = same; digest_size = 2; root = λ ops. same []; canonical = λ ops. same []; boundary = floor; proof = ops_proof same mmr variable; pins = pins_at same mmr variable; grafts = None }

-- the summary of that fill over an empty store
one_round_text : summary (exchanges toy policies (initial no_log (0 ∷ [])) (commands 0 1)) ≡ lines (codes "commands 18 refused 0" ∷ codes "info 0 10 2 2 live" ∷ codes "root 002a 002a" ∷ [])
unfolding draw key_of write_of settling round_with counts_of summary_text encode_with digits digits_below four_bytes eight_bytes
one_round_text = refl

-- refusals are counted, and one in the place of what is shown is shown
refused_text : summary {P = Policy} ((Commit, Done) ∷ (Commit, Refuses NoDatabase) ∷ (Info, Refuses NoDatabase) ∷ []) ≡ lines (codes "commands 3 refused 2" ∷ codes "refused NoDatabase" ∷ [])
unfolding counts_of summary_text digits
refused_text = refl

-- words of a fill, and words that are none
least : fill_of_words (codes "fill" ∷ codes "0" ∷ codes "1" ∷ codes "any" ∷ []) ≡ Some (record { seed = 0; rounds = 1 }, codes "any" ∷ [])
least = refl

greatest : fill_of_words (codes "fill" ∷ codes "4294967295" ∷ codes "10000" ∷ []) ≡ Some (record { seed = 4294967295; rounds = 10000 }, [])
greatest = refl

no_words : map fill_of_words ((codes "fill" ∷ codes "01" ∷ codes "1" ∷ []) ∷ (codes "fill" ∷ codes "4294967296" ∷ codes "1" ∷ []) ∷ (codes "fill" ∷ codes "0" ∷ codes "0" ∷ []) ∷ (codes "fill" ∷ codes "0" ∷ codes "10001" ∷ []) ∷ (codes "fill" ∷ codes "0" ∷ codes "any" ∷ []) ∷ (codes "fill" ∷ codes "0" ∷ []) ∷ (codes "run" ∷ codes "0" ∷ codes "1" ∷ []) ∷ [])
    ≡ None ∷ None ∷ None ∷ None ∷ None ∷ None ∷ None ∷ []
no_words = refl
