-- What a store in memory chooses and notes, computed.
use Rattle.std.specs.Prelude.{◌≡◌, ℕ, [], ◌∷◌, map, refl}
use Rattle.qm_model.specs.StoreModel.{Named, Stored, rest_of, appended, settled, rewound, pruned, with_metadata, restarted, destroyed}
use Rattle.qm_memory.specs.Changes.{rewound_from, pruned_from, put_new, put_over, appending, settling, rewinding, pruning, putting, restarting, emptying, before, past_of}
use Rattle.qm_memory.specs.Mem.{chosen}

-- four items from location 10 on, of which the first two are stable
abbrev held : Stored
held = record { start = 10; items = (1 ∷ []) ∷ (2 ∷ []) ∷ (3 ∷ []) ∷ (4 ∷ []) ∷ []; head = 7 ∷ []; metadata = []; stable = 12; ends = []; past = [] }

-- a restart keeps what it is asked to keep, but no less than is stable and no more than there is
chosen-less : chosen 10 held ≡ 12
chosen-less = refl

chosen-asked : chosen 13 held ≡ 13
chosen-asked = refl

chosen-more : chosen 20 held ≡ 14
chosen-more = refl

-- what is noted
rewinding-is : rewinding 11 held ≡ rewound_from ((2 ∷ []) ∷ (3 ∷ []) ∷ (4 ∷ []) ∷ []) 12
rewinding-is = refl

pruning-is : pruning 11 held ≡ pruned_from 10 (7 ∷ []) ((1 ∷ []) ∷ [])
pruning-is = refl

abbrev named : ℕ → Named
named n = record { name = n ∷ []; entries = [] }

putting-first : putting (2 ∷ []) (named 1 ∷ []) ≡ put_new
putting-first = refl

putting-again : putting (2 ∷ []) (named 1 ∷ named 2 ∷ named 3 ∷ []) ≡ put_over 1 (named 2)
putting-again = refl

-- the states before a commit, a rewind and a destroy, told from the last one
abbrev committed : Stored
committed = settled held

abbrev taken_back : Stored
taken_back = rewound 11 committed

before-is : map rest_of (before (emptying taken_back ∷ rewinding 11 committed ∷ settling held ∷ []) (destroyed taken_back)) ≡ map rest_of (taken_back ∷ committed ∷ held ∷ [])
before-is = refl

-- and those before a put over others, an append, a prune and a restart
abbrev noted : Stored
noted = record held { metadata = named 1 ∷ named 2 ∷ named 3 ∷ [] }

abbrev put : Stored
put = with_metadata (2 ∷ []) (record { key = 5 ∷ []; value = [] } ∷ []) noted

abbrev grown : Stored
grown = appended ((5 ∷ []) ∷ []) put

abbrev shorter : Stored
shorter = pruned 11 (8 ∷ []) grown

before-others : map rest_of (before (restarting 13 shorter ∷ pruning 11 grown ∷ appending ((5 ∷ []) ∷ []) put ∷ putting (2 ∷ []) noted.metadata ∷ []) (restarted 13 shorter)) ≡ map rest_of (shorter ∷ grown ∷ put ∷ noted ∷ [])
before-others = refl

-- what crashes may have found is what the calls tell
past-is : past_of (restarting 13 shorter ∷ pruning 11 grown ∷ appending ((5 ∷ []) ∷ []) put ∷ putting (2 ∷ []) noted.metadata ∷ []) (restarted 13 shorter) ≡ (restarted 13 shorter).past
past-is = refl

-- of a rewind what it found with as much stable as stays
past-rewound : past_of (emptying taken_back ∷ rewinding 11 committed ∷ settling held ∷ []) (destroyed taken_back) ≡ (destroyed taken_back).past
past-rewound = refl
