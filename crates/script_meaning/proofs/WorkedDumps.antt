-- Worked dumps, each worked out by hand.
use Rattle.std.specs.Prelude.{◌≡◌, ◌++◌, ℕ, pos, [], ◌∷◌, codes, Option, None, Some, refl}
use Rattle.std.specs.Fmt.{digits}
use Rattle.aw_cell.specs.declared.cell.Cell.TheVariants.{Num, Int, Text, Slot}
use Rattle.aw_cell.specs.declared.cell.Kind.TheVariants.{Num as NumberKind, Int as IntegerKind, Text as TextKind, Slot as SlotKind}
use Rattle.aw_schema.specs.declared.definition.DefKind.TheVariants.{Dimension, Relation, Valueset, Variable, Formula}
use Rattle.aw_body.specs.declared.body.Body.{Body}
use Rattle.aw_body.specs.declared.body.Body.TheVariants.{Dim, Rel, Set, Var}
use Rattle.aw_dim.specs.Edits.{empty}
use Rattle.mv_core.specs.declared.object.Object.{Object}
use Rattle.script_meaning.specs.Dump.{dumped}

-- an object that nobody owns
abbrev standing : ℕ → Body → Option (Object Body)
standing number body = Some (record { number = number; body = body; owner = None })

-- an INTEGER variable without dimensions, once committed, and one that was never set
pub integers : dumped (record { name = codes "v"; kind = Variable IntegerKind [] } ∷ record { name = codes "w"; kind = Variable IntegerKind [] } ∷ [])
    (standing 2 (Var (record { slots = 0; kind = IntegerKind; cells = ([], Int (pos 7)) ∷ [] })) ∷ standing 1 (Var (record { slots = 0; kind = IntegerKind; cells = [] })) ∷ [])
    ≡ codes "v 2 1" ++ 10 ∷ codes "  = 7" ++ 10 ∷ codes "w 1 0" ++ 10 ∷ []
unfolding digits
integers = refl

-- a dimension without values, and cells at keys of one slot
pub keys : dumped (record { name = codes "d"; kind = Dimension } ∷ record { name = codes "v"; kind = Variable IntegerKind (0 ∷ []) } ∷ [])
    (standing 1 (Dim empty) ∷ standing 2 (Var (record { slots = 1; kind = IntegerKind; cells = (0 ∷ [], Int (pos 7)) ∷ (1 ∷ [], Int (pos 7)) ∷ [] })) ∷ [])
    ≡ codes "d 1 0 0" ++ 10 ∷ codes "v 2 2" ++ 10 ∷ codes "  0 = 7" ++ 10 ∷ codes "  1 = 7" ++ 10 ∷ []
unfolding digits
keys = refl

-- values in their order, a relation, a valueset, a formula, which isn't kept, and cells of TEXT and NUMBER
pub kinds : dumped (record { name = codes "geo"; kind = Dimension } ∷ record { name = codes "time"; kind = Dimension } ∷ record { name = codes "up"; kind = Relation 0 0 } ∷ record { name = codes "some"; kind = Valueset 0 }
    ∷ record { name = codes "f"; kind = Formula (codes "a") } ∷ record { name = codes "t"; kind = Variable TextKind (0 ∷ 1 ∷ []) } ∷ record { name = codes "n"; kind = Variable NumberKind [] } ∷ [])
    (standing 3 (Dim (record { entries = (2, codes "All") ∷ (0, codes "North East") ∷ []; next = 12 }))
    ∷ standing 2 (Dim (record { entries = (0, codes "Jan") ∷ (10, codes "Feb") ∷ []; next = 11 }))
    ∷ standing 2 (Rel (record { slots = 1; kind = SlotKind; cells = (0 ∷ [], Slot 2) ∷ [] }))
    ∷ standing 2 (Set (2 ∷ 0 ∷ []))
    ∷ None
    ∷ standing 4 (Var (record { slots = 2; kind = TextKind; cells = (0 ∷ 10 ∷ [], Text (codes "NA")) ∷ (2 ∷ 0 ∷ [], Text []) ∷ [] }))
    ∷ standing 2 (Var (record { slots = 0; kind = NumberKind; cells = ([], Num (pos 125000)) ∷ [] })) ∷ [])
    ≡ codes "geo 3 2 12" ++ 10 ∷ codes "  2 All" ++ 10 ∷ codes "  0 North East" ++ 10 ∷ codes "time 2 2 11" ++ 10 ∷ codes "  0 Jan" ++ 10 ∷ codes "  10 Feb" ++ 10 ∷ codes "up 2 1" ++ 10 ∷ codes "  0 = 2"
    ++ 10 ∷ codes "some 2 2" ++ 10 ∷ codes "  2" ++ 10 ∷ codes "  0" ++ 10 ∷ codes "t 4 2" ++ 10 ∷ codes "  0 10 = NA" ++ 10 ∷ codes "  2 0 = " ++ 10 ∷ codes "n 2 1" ++ 10 ∷ codes "  = 12.5000" ++ 10 ∷ []
unfolding digits
kinds = refl

-- nothing is dumped where nothing is defined
pub nothing : dumped [] [] ≡ []
nothing = refl
