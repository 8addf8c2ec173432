-- Examples: 01's "Orders that were worked through", the ten starred ones, two for 02's #102 and four for its #106, encodings and receptions alike, as one list
-- with one statement (`orders_kept`, proofs/Orders). One more order is one more line: encoded, read, or with number 7. Holds: `closing_at_limit` and
-- `closing_beyond_limit`, which crate `line` names; `orders`, `OrdersKept`.
use mathlib.Core.List.{List, [], ◌∷◌, ◌++◌, Memᴰ}
use Rattle.std.specs.Prelude.{replicate}
use Rattle.field.specs.Symbols.{unknown_mark}
use Rattle.link.specs.Orders.{Order, OrderKept, encodes, reads, gets_seven}

-- "Setting 1, 2431 2323 0000: message 1", t altered symbols, all in closing blocks: "the count-4 order has 0" (02, #102).
abbrev pub closing_at_limit : Order
closing_at_limit = reads 1 (2 ∷ 4 ∷ 3 ∷ 1 ∷ 2 ∷ 3 ∷ 2 ∷ 3 ∷ 0 ∷ 0 ∷ 0 ∷ 0 ∷ []) (1 ∷ []) (2 ∷ 4 ∷ 3 ∷ 1 ∷ 2 ∷ 3 ∷ 2 ∷ 3 ∷ 2 ∷ 1 ∷ 3 ∷ 4 ∷ []) 0 0

-- "Setting 1, 2431 2320 0000: number 7", one more there: "Whether a message fits still looks at all blocks."
abbrev pub closing_beyond_limit : Order
closing_beyond_limit = gets_seven 1 (2 ∷ 4 ∷ 3 ∷ 1 ∷ 2 ∷ 3 ∷ 2 ∷ 0 ∷ 0 ∷ 0 ∷ 0 ∷ 0 ∷ []) 1 12

unfoldable pub orders : List Order
orders =
    -- "Setting 1, message 1"
    encodes 1 (1 ∷ []) (2 ∷ 4 ∷ 3 ∷ 1 ∷ 2 ∷ 3 ∷ 2 ∷ 3 ∷ 2 ∷ 1 ∷ 3 ∷ 4 ∷ [])
    -- "Setting 1, 12214334 (000, section 4)"
    ∷ encodes 1 (1 ∷ 2 ∷ 2 ∷ 1 ∷ 4 ∷ 3 ∷ 3 ∷ 4 ∷ [])
    (2 ∷ 4 ∷ 3 ∷ 1 ∷ 1 ∷ 1 ∷ 3 ∷ 0 ∷ 0 ∷ 0 ∷ 3 ∷ 2 ∷ 0 ∷ 2 ∷ 3 ∷ 0 ∷ 4 ∷ 1 ∷ 0 ∷ 0 ∷ 1 ∷ 0 ∷ 0 ∷ 4 ∷ 0 ∷ 0 ∷ 2 ∷ 3 ∷ 0 ∷ 3 ∷ 2 ∷ 0 ∷ 4 ∷ 0 ∷ 2 ∷ 4 ∷ 3 ∷ 4 ∷ 2
    ∷ 1 ∷ [])
    -- "Setting 2, message 10"
    ∷ encodes 2 (1 ∷ 0 ∷ []) (3 ∷ 1 ∷ 3 ∷ 2 ∷ 2 ∷ 1 ∷ 0 ∷ 3 ∷ 4 ∷ 1 ∷ 1 ∷ 4 ∷ 3 ∷ 0 ∷ 3 ∷ 6 ∷ 6 ∷ 5 ∷ 3 ∷ 5 ∷ 0 ∷ [])
    -- "Setting 3, message 100"
    ∷ encodes 3 (1 ∷ 0 ∷ 0 ∷ []) (5 ∷ 7 ∷ 7 ∷ 4 ∷ 1 ∷ 0 ∷ 0 ∷ 5 ∷ 2 ∷ 6 ∷ 6 ∷ 7 ∷ 0 ∷ 0 ∷ [])
    -- "Setting 3, message 010"
    ∷ encodes 3 (0 ∷ 1 ∷ 0 ∷ []) (0 ∷ 5 ∷ 7 ∷ 7 ∷ 4 ∷ 1 ∷ 0 ∷ 0 ∷ 4 ∷ 6 ∷ 1 ∷ 1 ∷ 2 ∷ 0 ∷ [])
    -- "Setting 1, 2400 1100 0000 0230 4100 0000 0023 0320 0000 3400: eight zeros", and "The count-14 order now has 12" (02, #102)
    ∷ reads 1
    (2 ∷ 4 ∷ 0 ∷ 0 ∷ 1 ∷ 1 ∷ 0 ∷ 0 ∷ 0 ∷ 0 ∷ 0 ∷ 0 ∷ 0 ∷ 2 ∷ 3 ∷ 0 ∷ 4 ∷ 1 ∷ 0 ∷ 0 ∷ 0 ∷ 0 ∷ 0 ∷ 0 ∷ 0 ∷ 0 ∷ 2 ∷ 3 ∷ 0 ∷ 3 ∷ 2 ∷ 0 ∷ 0 ∷ 0 ∷ 0 ∷ 0 ∷ 3 ∷ 4 ∷ 0
    ∷ 0 ∷ [])
    (replicate 8 0) (replicate 40 0) 12 0
    -- "Setting 1, 2431 1130 0000 0200 4100 0004 0003 0020 0004 3400: number 7"
    ∷ gets_seven 1
    (2 ∷ 4 ∷ 3 ∷ 1 ∷ 1 ∷ 1 ∷ 3 ∷ 0 ∷ 0 ∷ 0 ∷ 0 ∷ 0 ∷ 0 ∷ 2 ∷ 0 ∷ 0 ∷ 4 ∷ 1 ∷ 0 ∷ 0 ∷ 0 ∷ 0 ∷ 0 ∷ 4 ∷ 0 ∷ 0 ∷ 0 ∷ 3 ∷ 0 ∷ 0 ∷ 2 ∷ 0 ∷ 0 ∷ 0 ∷ 0 ∷ 4 ∷ 3 ∷ 4 ∷ 0
    ∷ 0 ∷ [])
    8 40
    -- "Setting 1, 0000 0000 0000: message 0, count 0"
    ∷ reads 1 (replicate 12 0) (0 ∷ []) (replicate 12 0) 0 0
    ∷ closing_at_limit
    ∷ closing_beyond_limit
    -- #102: the last symbol that counts altered, and the next, the first of the closing blocks.
    ∷ reads 1 (2 ∷ 4 ∷ 3 ∷ 0 ∷ 2 ∷ 3 ∷ 2 ∷ 3 ∷ 2 ∷ 1 ∷ 3 ∷ 4 ∷ []) (1 ∷ []) (2 ∷ 4 ∷ 3 ∷ 1 ∷ 2 ∷ 3 ∷ 2 ∷ 3 ∷ 2 ∷ 1 ∷ 3 ∷ 4 ∷ []) 1 0
    ∷ reads 1 (2 ∷ 4 ∷ 3 ∷ 1 ∷ 0 ∷ 3 ∷ 2 ∷ 3 ∷ 2 ∷ 1 ∷ 3 ∷ 4 ∷ []) (1 ∷ []) (2 ∷ 4 ∷ 3 ∷ 1 ∷ 2 ∷ 3 ∷ 2 ∷ 3 ∷ 2 ∷ 1 ∷ 3 ∷ 4 ∷ []) 0 0
    -- "With setting 1, 2431 followed by eight unknown symbols gives message 1; nine unknown symbols alone in a three-block reception give 7" (02, #106).
    ∷ reads 1 (2 ∷ 4 ∷ 3 ∷ 1 ∷ replicate 8 unknown_mark) (1 ∷ []) (2 ∷ 4 ∷ 3 ∷ 1 ∷ 2 ∷ 3 ∷ 2 ∷ 3 ∷ 2 ∷ 1 ∷ 3 ∷ 4 ∷ []) 0 8
    ∷ gets_seven 1 (replicate 9 unknown_mark ++ replicate 3 0) 1 12
    -- Both kinds, at d and one unknown symbol past it: of two altered symbols one stands in a closing block, and so do half of the unknown ones.
    ∷ reads 1 (0 ∷ unknown_mark ∷ unknown_mark ∷ 1 ∷ unknown_mark ∷ unknown_mark ∷ 2 ∷ 0 ∷ 2 ∷ 1 ∷ 3 ∷ 4 ∷ [])
    (1 ∷ []) (2 ∷ 4 ∷ 3 ∷ 1 ∷ 2 ∷ 3 ∷ 2 ∷ 3 ∷ 2 ∷ 1 ∷ 3 ∷ 4 ∷ []) 1 4
    ∷ gets_seven 1 (0 ∷ unknown_mark ∷ unknown_mark ∷ 1 ∷ unknown_mark ∷ unknown_mark ∷ 2 ∷ 0 ∷ 2 ∷ 1 ∷ 3 ∷ unknown_mark ∷ []) 1 12
    ∷ []

-- Every order of the list is kept.
abbrev pub OrdersKept : Type 0
OrdersKept = (o : Order) → Memᴰ o orders → OrderKept o
