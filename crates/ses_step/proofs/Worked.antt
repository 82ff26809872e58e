-- Worked cases: what a line is, and what one session's commands do, by computation.
use Rattle.std.specs.Prelude.{ℕ, ℤ, ◌≡◌, ◌++◌, true, false, List, [], ◌∷◌, codes, pos, Option, Some, None}
use Rattle.std.proofs.Common.{refl}
use Rattle.aw_cell.specs.declared.cell.Cell.{Cell}
use Rattle.aw_cell.specs.declared.cell.Cell.TheVariants.{Int, Na}
use Rattle.aw_cell.specs.declared.cell.Kind.TheVariants.{Int as Integer}
use Rattle.aw_schema.specs.declared.definition.Def.{Def}
use Rattle.aw_schema.specs.declared.definition.DefKind.{DefKind}
use Rattle.aw_schema.specs.declared.definition.DefKind.TheVariants.{Valueset, Variable, Formula}
use Rattle.aw_body.specs.declared.body.Body.{Body}
use Rattle.aw_body.specs.declared.body.Body.TheVariants.{Set, Var}
use Rattle.aw_body.specs.declared.change.Fresh.{Fresh}
use Rattle.aw_body.specs.declared.patch.BodyPatch.TheVariants.{Cells as CellPatch}
use Rattle.mv_core.specs.declared.entry.Entry.TheVariants as entry
use Rattle.mv_core.specs.declared.entry.Reply.{Reply}
use Rattle.mv_core.specs.declared.entry.Reply.TheVariants as reply
use Rattle.mv_view.specs.Rules.{read}
use Rattle.ses_report.specs.Refusals.{syntax, bad_line, not_attached, already_attached, too_large, newer}
use Rattle.ses_step.specs.declared.answer.Answer.{Answer}
use Rattle.ses_step.specs.declared.answer.Answer.TheVariants.{Done, Shown, Refused}
use Rattle.ses_step.specs.declared.command.Command.{Command}
use Rattle.dml_tree.specs.declared.statement.Mode.TheVariants.{Multi, ReadOnly}
use Rattle.ses_step.specs.declared.command.Command.TheVariants.{Attach, Detach, Acquire, Release, Revert, Write, Update, Commit, Show}
use Rattle.ses_step.specs.declared.line.LineForm.TheVariants as line
use Rattle.ses_step.specs.declared.session.Begun.{Begun}
use Rattle.ses_step.specs.declared.session.Begun.TheVariants.{Said, Ask}
use Rattle.ses_step.specs.declared.session.Known.{Known}
use Rattle.ses_step.specs.Lines.{line_form, opens_block, is_end}
use Rattle.ses_step.specs.Sessions.{new_session, begun, finished_by}

-- ---- lines

of_a_session : line_form (codes "  Ann: acquire Sales") ≡ line.Session (codes "Ann") 6
of_a_session = refl

-- without the colon it is refused at its first byte that is no blank
no_session : line_form (codes " b SHOW v") ≡ line.Bad (syntax 2)
no_session = refl

passed_over : line_form (codes " \"a: SHOW v") ≡ line.Blank
passed_over = refl

-- a byte that no line has
other_byte : line_form (codes "a: SHOW v" ++ 13 ∷ []) ≡ line.Bad bad_line
other_byte = refl

-- the colon of a session stands directly behind its name
named_define : line_form (codes "DEFINE: UPDATE") ≡ line.Session (codes "DEFINE") 7
named_define = refl

colon_apart : line_form (codes "DEFINE : UPDATE") ≡ line.Definition
colon_apart = refl

-- the first word ends where no letter, digit, `_` or `.` stands
word_at_a_mark : line_form (codes "DEFINE=v") ≡ line.Definition
word_at_a_mark = refl

longer_word : line_form (codes "DEFINE.v VARIABLE NUMBER") ≡ line.Bad (syntax 1)
longer_word = refl

-- ---- blocks

opens : opens_block (codes "DEFINE 9p\tPROGRAM \"c") ≡ true
opens = refl

opens_nothing : opens_block (codes "DEFINE \"p PROGRAM") ≡ false
opens_nothing = refl

ends : is_end (codes " end ") ≡ true
ends = refl

ends_nothing : is_end (codes "END \"p") ≡ false
ends_nothing = refl

-- ---- an INTEGER variable v, a valueset chosen and a formula f

v : List ℕ
v = codes "v"

defined : List ℕ → DefKind → Def
defined name kind = record { name = name; kind = kind }

all : List Def
all = defined v (Variable Integer []) ∷ defined (codes "chosen") (Valueset 4) ∷ defined (codes "f") (Formula []) ∷ []

holding : ℤ → Body
holding value = Var (record { slots = 0; kind = Integer; cells = ([], Int value) ∷ [] })

generation : ℕ → ℕ → Body → Fresh
generation object number body = record { object = object; number = number; body = body }

answered : Known → Reply → Option Command → Answer
answered s given asked = (finished_by all (codes "a" ∷ codes "b" ∷ []) s asked given).0

after : Known → Reply → Option Command → Known
after s given asked = (finished_by all (codes "a" ∷ codes "b" ∷ []) s asked given).1

said : Known → Command → Begun
said s command = (begun all s command).0

then : Known → Command → Known
then s command = (begun all s command).1

-- session 1 is attached, and v is 5 in its generation 3
attached : Known
attached = after (new_session 1) (reply.Attached (generation 0 3 (holding (pos 5)) ∷ generation 1 1 (Set (7 ∷ [])) ∷ [])) (Some (Attach Multi))

-- it acquires v
acquires : Command
acquires = Acquire (0 ∷ []) [] []

writes : ℤ → Command
writes value = Write 0 (([], Int value) ∷ [])

-- it has acquired v and written 8 into it
written : Known
written = then (after attached (reply.Acquired []) (Some acquires)) (writes (pos 8))

-- what it reads of v
value_of : Known → Cell
value_of s = elim s.view [ None ↦ Na | Some view ↦ read view 0 [] ]

staged : Known
staged = then written (Update [])

unattached : said (new_session 1) (Show (Int (pos 5))) ≡ Said (Refused not_attached)
unfolding said
unattached = refl

unattached_written : said (new_session 1) (writes (pos 8)) ≡ Said (Refused not_attached)
unfolding said writes
unattached_written = refl

attaches : said (new_session 1) (Attach ReadOnly) ≡ Ask (entry.Attach 1)
unfolding said
attaches = refl

attached_twice : said attached (Attach Multi) ≡ Said (Refused already_attached)
unfolding said attached after
attached_twice = refl

shown : said attached (Show (Int (pos 7))) ≡ Said (Shown (Int (pos 7)))
unfolding said attached after
shown = refl

-- an object that is no variable may be acquired
valueset_acquired : said attached (Acquire (1 ∷ []) [] []) ≡ Ask (entry.Acquire 1 (record { object = 1; number = 1 } ∷ []) [] [])
unfolding said attached after all defined v generation holding
valueset_acquired = refl

-- a session reads what it wrote, and commits what it staged
written_read : value_of written ≡ Int (pos 8)
unfolding value_of written writes then acquires attached after all defined v generation holding
written_read = refl

nothing_staged : said written Commit ≡ Said Done
unfolding said written writes then acquires attached after all defined v generation holding
nothing_staged = refl

change_asked : said staged Commit ≡ Ask (entry.Commit 1 (record { object = 0; patch = CellPatch (([], Int (pos 8)) ∷ []) } ∷ []) [])
unfolding said staged written writes then acquires attached after all defined v generation holding
change_asked = refl

-- what isn't owned isn't staged
unowned : said (then (then attached (writes (pos 8))) (Update [])) Commit ≡ Said Done
unfolding said then writes attached after all defined v generation holding
unowned = refl

-- behind the commit the generation is the next one, and nothing is staged
committed_acquired : said (after staged reply.Committed (Some Commit)) acquires ≡ Ask (entry.Acquire 1 (record { object = 0; number = 4 } ∷ []) [] [])
unfolding said staged written writes then acquires attached after all defined v generation holding
committed_acquired = refl

committed_twice : said (after staged reply.Committed (Some Commit)) Commit ≡ Said Done
unfolding said staged written writes then acquires attached after all defined v generation holding
committed_twice = refl

-- ---- giving up, and taking back

-- where nothing is staged the shared state is asked, and elsewhere the object is left by the next commit
given_up : said written (Release (0 ∷ [])) ≡ Ask (entry.Release 1 (0 ∷ []))
unfolding said then staged written writes acquires attached after all defined v generation holding
given_up = refl

left_later : said staged (Release (0 ∷ [])) ≡ Said Done
unfolding said then staged written writes acquires attached after all defined v generation holding
left_later = refl

leaving_asked : said (then staged (Release (0 ∷ []))) Commit ≡ Ask (entry.Commit 1 (record { object = 0; patch = CellPatch (([], Int (pos 8)) ∷ []) } ∷ []) (0 ∷ []))
unfolding said then staged written writes acquires attached after all defined v generation holding
leaving_asked = refl

-- nothing is staged any more, and it leaves all the same
leaving_alone : said (then (then (then staged (Release (0 ∷ []))) (writes (pos 5))) (Update [])) Commit ≡ Ask (entry.Commit 1 [] (0 ∷ []))
unfolding said then staged written writes acquires attached after all defined v generation holding
leaving_alone = refl

taken_back : value_of (then written (Revert [])) ≡ Int (pos 5)
unfolding value_of then written writes acquires attached after all defined v generation holding
taken_back = refl

staged_kept : value_of (then staged (Revert [])) ≡ Int (pos 8)
unfolding value_of then staged written writes acquires attached after all defined v generation holding
staged_kept = refl

left : said (after attached reply.Detached (Some Detach)) (writes (pos 8)) ≡ Said (Refused not_attached)
unfolding said writes attached after all defined v generation holding
left = refl

-- ---- refusals by the reply

too_long : answered staged (reply.TooLarge 67108865) (Some Commit) ≡ Refused too_large
unfolding answered
too_long = refl

newer_elsewhere : answered attached (reply.Newer 0 9) (Some acquires) ≡ Refused (newer v 9)
unfolding answered all defined v
newer_elsewhere = refl
