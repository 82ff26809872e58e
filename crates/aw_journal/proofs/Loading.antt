-- One frame more of a load.
use Rattle.std.proofs.Common.{◌≡◌, ℕ, ◌+◌, ◌≤◌, List, [], ◌∷◌, ◌++◌, length, take, drop, Option, IfSome, inl, inr, sym, ◌∙◌, ap, subst, arith, append_assoc, length-append, take-append-drop}
use Rattle.std.proofs.lemmas.List.{take_at, drop_at, drop-drop}
use Rattle.std.specs.Int.{from_be_bytes, w32}
use Rattle.aw_journal.specs.Format.{head, frames, size_bytes, AreShort, CutShort, Holds, placed}
use Rattle.aw_journal.specs.Loads.{Explains}
use Rattle.aw_journal.specs.inside.FramesRead.{Begins, HasRead, IsFrame, FrameExplains}
use Rattle.aw_journal.specs.declared.payload.Payload.{Payload}
use Rattle.aw_journal.specs.declared.gate.Gate.{Gate}
use Rattle.aw_journal.specs.declared.gate.Gate.TheVariants as gate
use Rattle.aw_journal.specs.declared.fault.LoadFault.{LoadFault}
use Rattle.aw_journal.specs.declared.fault.LoadFault.TheVariants as fault
use Rattle.aw_journal.proofs.callers.Frames.{length-size_bytes, size-read, frames-push}
use Rattle.aw_journal.proofs.FramesRead.{IfSome_both}

pub placed-push : (offset : ℕ) (payloads : List (List ℕ)) (payload : List ℕ) →
    placed offset (payloads ++ payload ∷ []) ≡ placed offset payloads ++ record { offset = offset + length (frames payloads); bytes = payload } ∷ []
placed-push offset [] payload = ap (λ (n : ℕ). let one : Payload = record { offset = n; bytes = payload } in one ∷ []) (omega arith)
placed-push offset (first ∷ payloads) payload =
    let next : List Payload → List Payload = λ (l : List Payload). record { offset = offset; bytes = first } ∷ l in
    ap next
    (placed-push (offset + 5 + length first) payloads payload
    ∙ ap (λ (n : ℕ). let one : Payload = record { offset = n; bytes = payload } in placed (offset + 5 + length first) payloads ++ one ∷ [])
    (omega (arith, length-append (size_bytes (length first) ++ first) (frames payloads), length-append (size_bytes (length first)) first, length-size_bytes (length first))))

module _ (settled : List (List ℕ)) (place size : ℕ) (content : List ℕ) (is : place ≡ 8 + length (frames settled)) (read : HasRead settled (gate.Open size) content) where
  abbrev front : List ℕ
  front = head ++ frames settled

  abbrev rest : List ℕ
  rest = read.begins.0

  whole : content ≡ front ++ 1 ∷ (size_bytes size ++ rest)
  whole = read.bytes ∙ ap (λ (l : List ℕ). front ++ l) read.begins.2

  behind : drop (place + 5) content ≡ rest
  behind =
      ap (λ (l : List ℕ). drop (place + 5) l) (whole ∙ sym (append_assoc front (1 ∷ size_bytes size) rest))
      ∙ drop_at (front ++ 1 ∷ size_bytes size) rest (place + 5) (omega (arith, is, length-append (frames settled) (1 ∷ size_bytes size), length-size_bytes size))

  pub frame_taken : (payload : List ℕ) (next : Gate) → length payload ≡ size → IsFrame (place + 5) size payload next content → HasRead (settled ++ payload ∷ []) next content
  frame_taken payload next long frame =
      let split : rest ≡ payload ++ drop size rest = sym (take-append-drop size rest) ∙ ap (λ (l : List ℕ). l ++ drop size rest) (sym (frame.bytes ∙ ap (λ (l : List ℕ). take size l) behind)) in
      let later : drop (place + 5 + size) content ≡ drop size rest = sym (drop-drop size (place + 5) content) ∙ ap (λ (l : List ℕ). drop size l) behind in
      record {
        rest = drop size rest;
        bytes = whole ∙ ap (λ (l : List ℕ). front ++ 1 ∷ (size_bytes size ++ l)) split
            ∙ ap (λ (l : List ℕ). front ++ 1 ∷ l) (sym (append_assoc (size_bytes size) payload (drop size rest)))
            ∙ ap (λ (n : ℕ). front ++ 1 ∷ (size_bytes n ++ payload ++ drop size rest)) (sym long)
            ∙ ap (λ (l : List ℕ). head ++ l) (sym (frames-push settled payload (drop size rest)));
        begins = subst (λ (l : List ℕ). Begins next l) later frame.begins;
      }

  pub frame_cut : AreShort settled → length content ≤ place + 5 + size → CutShort content place
  frame_cut short ends = record {
    payloads = settled;
    rest = size_bytes size ++ rest;
    short = short;
    bytes = whole;
    place = is;
    cut = inr (omega (arith, ends, is, said, ap length whole, length-append (frames settled) (1 ∷ (size_bytes size ++ rest)), length-append (size_bytes size) rest, length-size_bytes size));
  }
    where
      said : from_be_bytes w32 (take 4 (size_bytes size ++ rest)) ≡ size
      said = ap (λ (l : List ℕ). from_be_bytes w32 l) (take_at (size_bytes size) rest 4 (length-size_bytes size)) ∙ size-read size read.begins.1

pub gate_cut : (settled : List (List ℕ)) (place : ℕ) (content : List ℕ) → place ≡ 8 + length (frames settled) → AreShort settled → HasRead settled gate.CutShort content → CutShort content place
gate_cut settled place content is short read = record {
  payloads = settled;
  rest = read.begins.0;
  short = short;
  bytes = read.bytes ∙ ap (λ (l : List ℕ). head ++ frames settled ++ l) read.begins.2;
  place = is;
  cut = inl read.begins.1;
}

pub frame_explains : (fault : LoadFault) (settled : List (List ℕ)) (place size : ℕ) (content : Option (List ℕ)) (before now : ℕ) → place ≡ 8 + length (frames settled) → AreShort settled →
    IfSome content (HasRead settled (gate.Open size)) → FrameExplains fault place size content before now → Explains fault content before now
frame_explains fault.Unformatted settled place size content before now is short told explains = absurd explains
frame_explains (fault.Damaged offset) settled place size content before now is short told explains =
    IfSome_both content told explains.1 (λ bytes read ends. subst (λ (n : ℕ). CutShort bytes n) (sym explains.0) (frame_cut settled place size bytes is read short ends))
frame_explains fault.DiskFault settled place size content before now is short told explains = explains
frame_explains fault.NoMemory settled place size content before now is short told explains = tt

-- the content behind the last frame begins with a closed gate
pub read_all : (settled : List (List ℕ)) (content : List ℕ) → AreShort settled → HasRead settled gate.Closed content → Holds content settled
read_all settled content short read = record {
  gate = read.begins.0;
  rest = read.begins.1;
  closed = read.begins.2;
  short = short;
  bytes = read.bytes ∙ ap (λ (l : List ℕ). head ++ frames settled ++ l) read.begins.3;
}

-- no frame yet
pub nothing_read : (next : Gate) (content : List ℕ) → take 8 content ≡ head → Begins next (drop 8 content) → HasRead [] next content
nothing_read next content same begins = record {
  rest = drop 8 content;
  bytes = sym (take-append-drop 8 content) ∙ ap (λ (l : List ℕ). l ++ drop 8 content) same;
  begins = begins;
}
