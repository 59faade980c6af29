-- What the calls of a store make of it, computed.
use Rattle.std.specs.Prelude.{◌≡◌, ℕ, [], ◌∷◌, refl}
use Rattle.qm_model.specs.StoreModel.{Entry, Stored, end_of, metadata_in, appended, settled, rewound, pruned, with_metadata, restarted, destroyed}

-- five items from location 10 on, of which the first two are stable
abbrev held : Stored
held = record { start = 10; items = (1 ∷ []) ∷ [] ∷ (3 ∷ 3 ∷ []) ∷ (4 ∷ []) ∷ (5 ∷ []) ∷ []; head = 7 ∷ []; metadata = []; stable = 12; ends = []; past = [] }

held-end : end_of held ≡ 15
held-end = refl

-- an append adds items at the end, and makes none stable
appended-is : appended ((6 ∷ []) ∷ []) held ≡ record held { items = (1 ∷ []) ∷ [] ∷ (3 ∷ 3 ∷ []) ∷ (4 ∷ []) ∷ (5 ∷ []) ∷ (6 ∷ []) ∷ []; past = (appended ((6 ∷ []) ∷ []) held).past }
appended-is = refl

-- a commit makes all stable
settled-is : settled (appended ((6 ∷ []) ∷ []) held) ≡ record (appended ((6 ∷ []) ∷ []) held) { stable = 16; past = (settled (appended ((6 ∷ []) ∷ []) held)).past }
settled-is = refl

-- a rewind below the stable length takes that back, one above it does not
rewound-below : rewound 11 held ≡ record held { items = (1 ∷ []) ∷ []; stable = 11; past = (rewound 11 held).past }
rewound-below = refl

rewound-above : rewound 14 held ≡ record held { items = (1 ∷ []) ∷ [] ∷ (3 ∷ 3 ∷ []) ∷ (4 ∷ []) ∷ []; past = (rewound 14 held).past }
rewound-above = refl

rewound-all : rewound 10 held ≡ record held { items = []; stable = 10; past = (rewound 10 held).past }
rewound-all = refl

-- a prune moves the start, replaces the head, and leaves the end and the stable length
pruned-is : pruned 12 (8 ∷ 8 ∷ []) held ≡ record held { start = 12; items = (3 ∷ 3 ∷ []) ∷ (4 ∷ []) ∷ (5 ∷ []) ∷ []; head = 8 ∷ 8 ∷ []; past = (pruned 12 (8 ∷ 8 ∷ []) held).past }
pruned-is = refl

pruned-end : end_of (pruned 12 (8 ∷ 8 ∷ []) held) ≡ 15
pruned-end = refl

-- metadata under two names, the newest first
abbrev entry : ℕ → Entry
entry n = record { key = n ∷ []; value = n ∷ n ∷ [] }

abbrev named : Stored
named = with_metadata (0x62 ∷ []) (entry 2 ∷ entry 3 ∷ []) (with_metadata (0x61 ∷ []) (entry 1 ∷ []) held)

named-is : named.metadata ≡ record { name = 0x62 ∷ []; entries = entry 2 ∷ entry 3 ∷ [] } ∷ record { name = 0x61 ∷ []; entries = entry 1 ∷ [] } ∷ []
named-is = refl

named-found : metadata_in named.metadata (0x61 ∷ []) ≡ entry 1 ∷ []
named-found = refl

-- none if none was put, also under a name that begins alike
named-none : metadata_in named.metadata (0x61 ∷ 0x62 ∷ []) ≡ []
named-none = refl

-- the metadata of a name is replaced whole, and that of the other stays
renamed-is : (with_metadata (0x61 ∷ []) (entry 4 ∷ []) named).metadata ≡ record { name = 0x61 ∷ []; entries = entry 4 ∷ [] } ∷ record { name = 0x62 ∷ []; entries = entry 2 ∷ entry 3 ∷ [] } ∷ []
renamed-is = refl

-- a restart may lose what is not stable, or keep it; all that is left is stable, and the end is told
restarted-less : restarted 12 held ≡ record held { items = (1 ∷ []) ∷ [] ∷ []; ends = 12 ∷ []; past = (restarted 12 held).past }
restarted-less = refl

restarted-more : restarted 14 held ≡ record held { items = (1 ∷ []) ∷ [] ∷ (3 ∷ 3 ∷ []) ∷ (4 ∷ []) ∷ []; stable = 14; ends = 14 ∷ []; past = (restarted 14 held).past }
restarted-more = refl

-- a destroy keeps the ends of the restarts, in their order, and nothing else
destroyed-is : destroyed (restarted 12 (restarted 14 named)) ≡ record { start = 0; items = []; head = []; metadata = []; stable = 0; ends = 14 ∷ 12 ∷ []; past = (destroyed (restarted 12 (restarted 14 named))).past }
destroyed-is = refl
