-- What an op asks for may be asked for.
use Rattle.std.proofs.Common.{◌≡◌, ◌∙◌, ℕ, ◌&&◌, leb, eqb, List, [], ◌∷◌, length, Option, Some, None, refl, inl}
use Rattle.std.specs.Bool.{IsTrue}
use Rattle.std.specs.List.{slice_get, list_all}
use Rattle.std.proofs.lemmas.Bool.{and_parts, eqb-true}
use Rattle.aw_cell.specs.declared.cell.Cell.{Cell}
use Rattle.aw_cell.specs.declared.cell.Kind.{Kind}
use Rattle.aw_cell.specs.declared.cell.Kind.TheVariants.{Num as NumberKind, Int as IntegerKind, Text as TextKind, Bool as BooleanKind, Slot as SlotKind}
use Rattle.dml_exec.specs.declared.code.Code.{Code}
use Rattle.dml_exec.specs.declared.flow.Way.{Way}
use Rattle.dml_exec.specs.declared.kinds.Kinds.{Kinds}
use Rattle.dml_exec.specs.declared.op.Op.{Op}
use Rattle.dml_exec.specs.declared.op.Op.TheVariants.{Load, Name, NameOf}
use Rattle.dml_exec.specs.Meaning.{CodeInputs}
use Rattle.dml_exec.specs.CodeRuns.{MayAsk, rules_for}
use Rattle.dml_exec.specs.Verified.{Rules, onward, kind_pushed, kinds_named, name_of_kind, kind_named, kind_read, is_axis, is_dimension}
use Rattle.dml_exec.specs.inside.MachineSteps.{MayTurn, Stands}
use Rattle.dml_exec.proofs.CodeSteps.{some-of}
use Rattle.dml_exec.proofs.OperatorKinds.{when-some}
use Rattle.dml_exec.proofs.MachineSteps.{kind-read, dimension-is}

none-some : {A : Type 0} (a : A) → None ≡ Some a → ⊥
none-some a e = cc

pushes-some : (stack : List Kind) (pushes : Option Kind) (goes : Way × List Kind) → kind_pushed stack pushes ≡ Some goes → (kind : Kind) × (pushes ≡ Some kind)
pushes-some stack None goes e = absurd (none-some goes e)
pushes-some stack (Some kind) goes e = (kind, refl)

name-kind : (kinds : Kinds) (dimension : ℕ) (k kind : Kind) → name_of_kind kinds dimension k ≡ Some kind → IsTrue (is_dimension kinds dimension)
name-kind kinds dimension SlotKind kind e = (when-some (is_dimension kinds dimension) TextKind kind e).0
name-kind kinds dimension NumberKind kind e = absurd (none-some kind e)
name-kind kinds dimension IntegerKind kind e = absurd (none-some kind e)
name-kind kinds dimension TextKind kind e = absurd (none-some kind e)
name-kind kinds dimension BooleanKind kind e = absurd (none-some kind e)

named-dimension : (kinds : Kinds) (dimension : ℕ) (stack : List Kind) (goes : Way × List Kind) → kinds_named kinds dimension stack ≡ Some goes → IsTrue (is_dimension kinds dimension)
named-dimension kinds dimension [] goes e = absurd (none-some goes e)
named-dimension kinds dimension (k ∷ stack) goes e = let p = pushes-some stack (name_of_kind kinds dimension k) goes e in name-kind kinds dimension k p.0 p.1

pub asks : (r : Rules) (may_read : ℕ → List ℕ → Type 0) (may_name : ℕ → ℕ → Type 0) → MayAsk r.kinds may_read may_name → (at : ℕ) (op : Op) (stack : List Kind) (goes : Way × List Kind) → onward r at op stack ≡ Some goes → MayTurn may_read may_name op
asks r may_read may_name may at (Load object axes) stack goes e =
    λ slots len.
    let p = pushes-some stack (kind_read r.kinds r.fixes axes (slice_get r.kinds.objects object)) goes e in
    let k = kind-read r.kinds r.fixes axes (slice_get r.kinds.objects object) p.0 p.1 in
    let outer = and_parts (eqb (length axes) (length k.0) && leb (length axes) 6) (list_all (is_axis r.kinds r.fixes) axes) k.2 in
    let inner = and_parts (eqb (length axes) (length k.0)) (leb (length axes) 6) outer.0 in
    may.cells object p.0 k.0 slots k.1 (len ∙ eqb-true (length axes) (length k.0) inner.0)
asks r may_read may_name may at (Name dimension) stack goes e =
    λ slot.
    let p = pushes-some stack (kind_named r.kinds dimension) goes e in
    let w = when-some (is_dimension r.kinds dimension) TextKind p.0 p.1 in
    may.names dimension slot (dimension-is (slice_get r.kinds.objects dimension) w.0)
asks r may_read may_name may at (NameOf dimension) stack goes e =
    λ slot. may.names dimension slot (dimension-is (slice_get r.kinds.objects dimension) (named-dimension r.kinds dimension stack goes e))
asks r may_read may_name may at _ stack goes e = tt

pub stands-asks : (code : Code) (r : CodeInputs) (may_read : ℕ → List ℕ → Type 0) (may_name : ℕ → ℕ → Type 0) (next : ℕ) (cells : List Cell) (op : Op) → Stands code r may_read may_name next cells → slice_get code.ops next ≡ Some op → MayTurn may_read may_name op
stands-asks code r may_read may_name next cells op s is =
    let rules : Rules = rules_for s.can.kinds code in
    let fine : onward rules next op s.stack ≡ None → ⊥ = λ stuck. s.can.accepted.sound.ops next (inl (record { op = op; stack = s.stack; here = is; reached = s.reached; stuck = stuck })) in
    let on = some-of (onward rules next op s.stack) fine in
    asks rules may_read may_name s.can.may_ask next op s.stack on.0 on.1
