-- 'What is turned down': each number with its nearest accepted neighbours, which of two faults wins, and what the entries leave. Sheets of ours, all
-- proved by computation. They are examples: what they pin of the definitions is what the edits in must-fail/ show. Assumes nothing.
use Rattle.std.specs.Prelude.{ℕ, ◌≡◌, refl, List, [], ◌∷◌, ◌++◌, map, take, set, replicate}
use Rattle.rules.specs.Project.{number32}
use Rattle.rules.specs.Calls.{bytes32}
use Rattle.rules.specs.SheetWords.{sections, project_bytes, always, order, grouping, enter_order, enter_groups, given, turned_down, left}
use Rattle.rules.proofs.Sheets.{early_bytes, twice_bytes}

-- A project that is damaged below: a plain item in module 0 and a dropped one in module 1, import 0→1, circle [0,1], need 0→1, 48 bytes.
-- Byte 1: M, 2: entry. Bytes 4, 12, 20, 28: offsets 36, 40, 42, 45, each with its length 4 bytes behind it: 4, 2, 3, 3. Bytes 36 to 39: the items;
-- 40, 41: the import; 42 to 44: the circle; 45 to 47: the need.
abbrev sound : List ℕ
sound = project_bytes 2 ((0, 0) ∷ (1, 5) ∷ []) ((0, 1) ∷ []) ((0 ∷ 1 ∷ []) ∷ []) (always 0 1 ∷ [])

sound-order : order sound 2 0 ≡ given 1 1 3 1 (0 ∷ [])
unfolding order
sound-order = refl

sound-groups : grouping sound 6 0 ≡ given 0 1 3 0 (2 ∷ 1 ∷ 0 ∷ [])
unfolding grouping
sound-groups = refl

-- What order calls answer to projects, with a reply of 256 bytes.
answers : List (List ℕ) → List ℕ
unfolding order
answers = map (λ bytes. (order bytes 256 0).number)

-- 1, "under 36 bytes". A project without rows has 36.
stub : answers (take 35 sound ∷ [] ∷ project_bytes 1 [] [] [] [] ∷ []) ≡ 1 ∷ 1 ∷ 0 ∷ []
unfolding answers
stub = refl

-- 2, "edition not 1, or byte 3 not 0"
foreign : answers (set sound 0 0 ∷ set sound 0 2 ∷ set sound 3 1 ∷ sound ∷ []) ≡ 2 ∷ 2 ∷ 2 ∷ 0 ∷ []
unfolding answers
foreign = refl

-- 3, "The first offset is 36", with items (38, 2) ..
misplaced-first : answers (set (set sound 4 38) 8 2 ∷ []) ≡ 3 ∷ []
unfolding answers
misplaced-first = refl

-- .. "each next one is the previous offset plus length": items (36, 2), imports (40, 0), circles (42, 0); and items (36, 6) ..
misplaced-next : answers (set sound 8 2 ∷ set sound 16 0 ∷ set sound 24 0 ∷ set sound 8 6 ∷ []) ≡ 3 ∷ 3 ∷ 3 ∷ 3 ∷ []
unfolding answers
misplaced-next = refl

-- .. "and the last section ends the input": needs (45, 0), a byte more, a byte less.
misplaced-last : answers (set sound 32 0 ∷ (sound ++ (0 ∷ [])) ∷ take 47 sound ∷ []) ≡ 3 ∷ 3 ∷ 3 ∷ []
unfolding answers
misplaced-last = refl

-- "offset and length, 32 bits each", little_endian: the other bytes of the first offset and of the last length count ..
misplaced-bytes : answers (set sound 5 1 ∷ set sound 6 1 ∷ set sound 7 1 ∷ set sound 33 1 ∷ set sound 34 1 ∷ set sound 35 1 ∷ [])
    ≡ 3 ∷ 3 ∷ 3 ∷ 3 ∷ 3 ∷ 3 ∷ []
unfolding answers
misplaced-bytes = refl

-- .. and no sum wraps: imports (40, 4294967294), circles (38, 7).
misplaced-sum : answers (set (set (set (set (set (set sound 16 254) 17 255) 18 255) 19 255) 20 38) 24 7 ∷ []) ≡ 3 ∷ []
unfolding answers
misplaced-sum = refl

-- 4, "items or imports odd in length, needs not a multiple of 3". Circles may be odd.
ragged : answers (sections 2 (0 ∷ 0 ∷ 0 ∷ []) [] [] [] ∷ sections 2 [] (0 ∷ 1 ∷ 1 ∷ []) [] [] ∷ sections 2 [] [] [] (0 ∷ 1 ∷ []) ∷ sections 2 [] [] [] (0 ∷ []) ∷ sections 2 [] [] (0 ∷ []) [] ∷ [])
    ≡ 4 ∷ 4 ∷ 4 ∷ 4 ∷ 0 ∷ []
unfolding answers
ragged = refl

-- 5, "M, entry or a section outside its limit": "modules M, 1 to 64" ..
outsize-modules : answers (set sound 1 0 ∷ project_bytes 65 [] [] [] [] ∷ project_bytes 64 [] [] [] [] ∷ project_bytes 1 [] [] [] [] ∷ []) ≡ 5 ∷ 5 ∷ 0 ∷ 0 ∷ []
unfolding answers
outsize-modules = refl

-- .. "entry module, below M" ..
outsize-entry : answers (set sound 2 2 ∷ set sound 2 1 ∷ []) ≡ 5 ∷ 0 ∷ []
unfolding answers
outsize-entry = refl

-- .. "Items, at most 256 rows of 2 bytes" ..
outsize-items : answers (project_bytes 1 (replicate 257 (0, 5)) [] [] [] ∷ project_bytes 1 (replicate 256 (0, 5)) [] [] [] ∷ []) ≡ 5 ∷ 0 ∷ []
unfolding answers
outsize-items = refl

-- .. "Imports, at most 512 rows of 2 bytes" ..
outsize-imports : answers (project_bytes 2 [] (replicate 513 (0, 1)) [] [] ∷ project_bytes 2 [] (replicate 512 (0, 1)) [] [] ∷ []) ≡ 5 ∷ 0 ∷ []
unfolding answers
outsize-imports = refl

-- .. "Circles, at most 512 bytes" ..
outsize-circles : answers (project_bytes 1 [] [] (replicate 513 []) [] ∷ project_bytes 1 [] [] (replicate 512 []) [] ∷ []) ≡ 5 ∷ 0 ∷ []
unfolding answers
outsize-circles = refl

-- .. "Needs, at most 2,048 rows of 3 bytes".
outsize-needs : answers (project_bytes 1 ((0, 0) ∷ (0, 0) ∷ []) [] [] (replicate 2049 (always 0 1)) ∷ project_bytes 1 ((0, 0) ∷ (0, 0) ∷ []) [] [] (replicate 2048 (always 0 1)) ∷ [])
    ≡ 5 ∷ 0 ∷ []
unfolding answers
outsize-needs = refl

-- 6, "module not below M, or kind above 5", of the first row and of the last
bad-item : answers (set sound 36 2 ∷ set sound 37 6 ∷ set sound 38 2 ∷ set sound 39 6 ∷ set sound 36 1 ∷ set sound 37 5 ∷ [])
    ≡ 6 ∷ 6 ∷ 6 ∷ 6 ∷ 0 ∷ 0 ∷ []
unfolding answers
bad-item = refl

-- 7, "an end not below M, or equal ends". Import 1→0 is none.
bad-import : answers (set sound 40 2 ∷ set sound 41 2 ∷ set sound 41 0 ∷ set (set sound 40 1) 41 0 ∷ []) ≡ 7 ∷ 7 ∷ 7 ∷ 0 ∷ []
unfolding answers
bad-import = refl

-- 8, "a list passes the section's end": counts 3 and 1 for 2, [0] and a count 1 being left; "or a member not below M". "A count of 0 and a repeated
-- member are allowed", a count of 0 at the end too: circles [0,0]; [] [] []; [1] [].
bad-circle : answers (set sound 42 3 ∷ set sound 42 1 ∷ set sound 43 2 ∷ set sound 44 2 ∷ set sound 44 0 ∷ set (set sound 42 0) 44 0 ∷ set (set (set sound 42 1) 43 1) 44 0 ∷ [])
    ≡ 8 ∷ 8 ∷ 8 ∷ 8 ∷ 0 ∷ 0 ∷ 0 ∷ []
unfolding answers
bad-circle = refl

-- 9, "an end not an item, equal ends, or weight above 1". A dropped item is an item.
bad-need : answers (set sound 45 2 ∷ set sound 46 2 ∷ set sound 46 0 ∷ set sound 47 2 ∷ set sound 47 1 ∷ sound ∷ []) ≡ 9 ∷ 9 ∷ 9 ∷ 9 ∷ 0 ∷ 0 ∷ []
unfolding answers
bad-need = refl

-- 10, "under one byte per item row (order)", kept or not, "or under M × (M + 1) bytes (groups)". For `sound` 2 and 6 are enough, as above.
short-order : order sound 1 0 ≡ turned_down 10 0 0
unfolding order
short-order = refl

short-groups : grouping sound 5 0 ≡ turned_down 10 0 0
unfolding grouping
short-groups = refl

-- 11, "visits made equal the allowance and another is due": of the module walk, of the item walk, and not where none is due.
spent-modules : order sound 2 2 ≡ turned_down 11 2 0
unfolding order
spent-modules = refl

spent-items : order sound 2 3 ≡ turned_down 11 3 0
unfolding order
spent-items = refl

spent-groups : grouping sound 6 2 ≡ turned_down 11 2 0
unfolding grouping
spent-groups = refl

sound-4 : order sound 2 4 ≡ given 1 1 3 1 (0 ∷ [])
unfolding order
sound-4 = refl

sound-groups-3 : grouping sound 6 3 ≡ given 0 1 3 0 (2 ∷ 1 ∷ 0 ∷ [])
unfolding grouping
sound-groups-3 = refl

-- 12, "a visit leaves over 1,024 module or 16,384 item entries", is in SheetsOnTheLists: of the calls, and of entries. "12 right after a visit, 11
-- before the next": at 1,022 visits of Unlisted both would do.

-- "Checked in the table's order": of two neighbouring numbers the smaller wins.
-- 1 and 2: 35 bytes of edition 2. 2 and 3: edition 2 and first offset 37. 3 and 4: items of 3 bytes, so that imports are misplaced. 4 and 5: 65 modules
-- and 3 bytes of items. 5 and 6: 65 modules and an item of module 65.
first-fault : answers (take 35 (set sound 0 2) ∷ set (set sound 0 2) 4 37 ∷ set sound 8 3 ∷ sections 65 (0 ∷ 0 ∷ 0 ∷ []) [] [] [] ∷ project_bytes 65 ((65, 0) ∷ []) [] [] [] ∷ [])
    ≡ 1 ∷ 2 ∷ 3 ∷ 4 ∷ 5 ∷ []
unfolding answers
first-fault = refl

-- 6 and 7: kind 6 and equal ends. 7 and 8: equal ends and a member 2. 8 and 9: a member 2 and weight 2.
first-fault-rows : answers (set (set sound 39 6) 41 0 ∷ set (set sound 41 0) 44 2 ∷ set (set sound 44 2) 47 2 ∷ []) ≡ 6 ∷ 7 ∷ 8 ∷ []
unfolding answers
first-fault-rows = refl

-- 9 and 10: weight 2 and no reply.
first-fault-9-order : order (set sound 47 2) 0 0 ≡ turned_down 9 0 0
unfolding order
first-fault-9-order = refl

first-fault-9-groups : grouping (set sound 47 2) 0 0 ≡ turned_down 9 0 0
unfolding grouping
first-fault-9-groups = refl

-- 10 and 11: a short reply and an allowance of 1.
first-fault-10-order : order sound 1 1 ≡ turned_down 10 0 0
unfolding order
first-fault-10-order = refl

first-fault-10-groups : grouping sound 5 1 ≡ turned_down 10 0 0
unfolding grouping
first-fault-10-groups = refl

-- The entries: "writes those five numbers in that order, 32 bits each, to the first 20 bytes of a report"; "bytes beyond stay". Early and Twice.
entry-order : enter_order early_bytes (replicate 7 9) (replicate 21 7) 0
    ≡ left 0
    (3 ∷ 2 ∷ 4 ∷ 1 ∷ 0 ∷ 9 ∷ 9 ∷ [])
    (0 ∷ 0 ∷ 0 ∷ 0 ∷ 5 ∷ 0 ∷ 0 ∷ 0 ∷ 1 ∷ 0 ∷ 0 ∷ 0 ∷ 3 ∷ 0 ∷ 0 ∷ 0 ∷ 11 ∷ 0 ∷ 0 ∷ 0 ∷ 7 ∷ [])
unfolding enter_order
entry-order = refl

entry-groups : enter_groups twice_bytes (replicate 12 9) (replicate 20 7) 0
    ≡ left 0
    (1 ∷ 0 ∷ 3 ∷ 2 ∷ 1 ∷ 0 ∷ 9 ∷ 9 ∷ 9 ∷ 9 ∷ 9 ∷ 9 ∷ [])
    (0 ∷ 0 ∷ 0 ∷ 0 ∷ 0 ∷ 0 ∷ 0 ∷ 0 ∷ 2 ∷ 0 ∷ 0 ∷ 0 ∷ 4 ∷ 0 ∷ 0 ∷ 0 ∷ 0 ∷ 0 ∷ 0 ∷ 0 ∷ [])
unfolding enter_groups
entry-groups = refl

-- "Numbers of several bytes are little_endian", written and read.
little_endian : bytes32 67305985 ≡ 1 ∷ 2 ∷ 3 ∷ 4 ∷ []
unfolding bytes32
little_endian = refl

little-endian-read : number32 (1 ∷ 2 ∷ 3 ∷ 4 ∷ []) 0 ≡ 67305985
unfolding number32
little-endian-read = refl

-- 13, "report under 20 bytes", is checked first and leaves the report untouched: over 1 and over an order or a grouping that would be given.
short-report-stub : enter_order [] (9 ∷ []) (replicate 19 7) 0 ≡ left 13 (9 ∷ []) (replicate 19 7)
unfolding enter_order
short-report-stub = refl

short-report-order : enter_order early_bytes (replicate 5 9) (replicate 19 7) 0 ≡ left 13 (replicate 5 9) (replicate 19 7)
unfolding enter_order
short-report-order = refl

short-report-groups : enter_groups twice_bytes (replicate 12 9) (replicate 19 7) 0 ≡ left 13 (replicate 12 9) (replicate 19 7)
unfolding enter_groups
short-report-groups = refl
