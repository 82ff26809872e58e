-- What reading the script did: the bytes that were taken, what was written for them, and the play after them.
use Rattle.std.specs.Prelude.{◌≡◌, ◌≤◌, ◌+◌, ◌++◌, ◌⊎◌, ℕ, Bool, true, false, List, [], ◌∷◌, length, Option, Result, Ok, Err}
use Rattle.std.specs.Io.KnownBytes.{IsAtEnd}
use Rattle.aw_io.specs.Known.{Gives, Grows}
use Rattle.aw_codec.specs.declared.record.Decoded.{Decoded}
use Rattle.aw_store.specs.Stores.{StoreState}
use Rattle.script_world.specs.Worlds.{ended_events, script_events}
use Rattle.script_play.specs.declared.world.StoreWorld.{StoreWorld}
use Rattle.script_play.specs.declared.ending.Ending.{Ending}
use Rattle.script_play.specs.declared.ending.Ending.TheVariants.{Accepted, Refusing, SourceFault, SinkFault, DiskFault, NoMemory, TooLong}
use Rattle.script_play.specs.declared.stop.Stop.{Stop}
use Rattle.script_play.specs.declared.stop.Stop.TheVariants as stop
use Rattle.script_play.specs.Runs.{most_bytes, Streams}
use Rattle.script_play.specs.inside.Playing.{Play, HasDone, HasPlayed, HasStopped, HasFinished, Finishes, StopsAtEnd}

-- how a run ends that a player stopped
abbrev pub stop_ending : Stop → Ending
stop_ending stop.SinkFault = SinkFault
stop_ending stop.DiskFault = DiskFault
stop_ending stop.NoMemory = NoMemory

-- a source gave one byte more
pub record GivesOne (before now : Option (List ℕ)) : Type 0 where
  pub byte : ℕ
  pub gives : Gives before now (byte ∷ [])

-- the source is at its end, or gave another byte, or failed
abbrev pub EndsOrFails : Result (Unit {0}) Ending → Option (List ℕ) → Option (List ℕ) → Type 0
EndsOrFails (Ok done) before now = (now ≡ before) × IsAtEnd now
EndsOrFails (Err TooLong) before now = GivesOne before now
EndsOrFails (Err SourceFault) before now = now ≡ before
EndsOrFails (Err Accepted) before now = ⊥
EndsOrFails (Err Refusing) before now = ⊥
EndsOrFails (Err SinkFault) before now = ⊥
EndsOrFails (Err DiskFault) before now = ⊥
EndsOrFails (Err NoMemory) before now = ⊥

module _ {D : Type 0} (faults clock : D → ℕ) (crash : D → ℕ → List ℕ → Type 0) (records : List Decoded) (at : D) where
  -- these bytes were taken and played, and so many more may come
  pub record HasRead (s : Streams) (play : Play D) (room : ℕ) : Type 0 where
    pub taken : List ℕ
    pub gives : Gives s.left_before s.left_now taken
    pub size : length taken + room ≡ most_bytes
    pub played : HasPlayed faults clock crash records at taken play s.written_before s.written_now

  -- the same, and nothing is left
  pub record ReadAll (s : Streams) (play : Play D) : Type 0 where
    pub taken : List ℕ
    pub gives : Gives s.left_before s.left_now taken
    pub size : length taken ≤ most_bytes
    pub at_end : IsAtEnd s.left_now
    pub played : HasPlayed faults clock crash records at taken play s.written_before s.written_now

  -- reading broke off, with all written that was due
  pub record BrokeOff (s : Streams) (store : StoreState D) : Type 0 where
    pub taken : List ℕ
    pub gives : Gives s.left_before s.left_now taken
    pub size : length taken ≤ most_bytes
    pub text : List ℕ
    pub refused : Bool
    pub w : StoreWorld (StoreState D)
    pub lines : HasDone faults clock crash records at (ended_events taken) text refused w
    pub store_is : store ≡ w.store
    pub written : Grows s.written_before s.written_now text

  -- a player stopped
  pub record CutOff (stop : Stop) (s : Streams) (store : StoreState D) : Type 0 where
    pub taken : List ℕ
    pub gives : Gives s.left_before s.left_now taken
    pub size : length taken ≤ most_bytes
    pub stopped : HasStopped faults clock crash records at stop (ended_events taken) store s.written_before s.written_now

  -- a byte more came than a script may have
  pub record RanOver (s : Streams) (store : StoreState D) : Type 0 where
    pub taken : List ℕ
    pub next : ℕ
    pub gives : Gives s.left_before s.left_now (taken ++ next ∷ [])
    pub size : length taken ≡ most_bytes
    pub text : List ℕ
    pub refused : Bool
    pub w : StoreWorld (StoreState D)
    pub lines : HasDone faults clock crash records at (ended_events taken) text refused w
    pub store_is : store ≡ w.store
    pub written : Grows s.written_before s.written_now text

  abbrev pub StoppedReading : Ending → Streams → StoreState D → Type 0
  StoppedReading Accepted s store = ⊥
  StoppedReading Refusing s store = ⊥
  StoppedReading SourceFault s store = BrokeOff s store
  StoppedReading SinkFault s store = CutOff stop.SinkFault s store
  StoppedReading DiskFault s store = CutOff stop.DiskFault s store
  StoppedReading NoMemory s store = CutOff stop.NoMemory s store
  StoppedReading TooLong s store = RanOver s store

  abbrev pub Reads : Result (Unit {0}) Ending → Streams → Play D → Type 0
  Reads (Ok done) s play = ReadAll s play
  Reads (Err ending) s play = StoppedReading ending s play.world.store

  -- ---- the end of a run

  -- the script was read to its end, and what was defined is written
  pub record EndedWhole (refused : Bool) (s : Streams) (store : StoreState D) : Type 0 where
    pub taken : List ℕ
    pub gives : Gives s.left_before s.left_now taken
    pub size : length taken ≤ most_bytes
    pub at_end : IsAtEnd s.left_now
    pub finished : HasFinished faults clock crash records at (script_events taken) refused store s.written_before s.written_now

  -- a player stopped at the end of the script
  pub record CutAtEnd (stop : Stop) (s : Streams) (store : StoreState D) : Type 0 where
    pub taken : List ℕ
    pub gives : Gives s.left_before s.left_now taken
    pub size : length taken ≤ most_bytes
    pub at_end : IsAtEnd s.left_now
    pub stopped : HasStopped faults clock crash records at stop (script_events taken) store s.written_before s.written_now

  abbrev pub EndsRun : Ending → Streams → StoreState D → Type 0
  EndsRun Accepted s store = EndedWhole false s store
  EndsRun Refusing s store = EndedWhole true s store
  EndsRun SourceFault s store = BrokeOff s store
  EndsRun SinkFault s store = CutOff stop.SinkFault s store ⊎ CutAtEnd stop.SinkFault s store
  EndsRun DiskFault s store = CutOff stop.DiskFault s store ⊎ CutAtEnd stop.DiskFault s store
  EndsRun NoMemory s store = CutOff stop.NoMemory s store ⊎ CutAtEnd stop.NoMemory s store
  EndsRun TooLong s store = RanOver s store

module _ {D : Type 0} (faults clock : D → ℕ) (crash : D → ℕ → List ℕ → Type 0) (start : Play D) where
  -- from a play of no bytes, whatever the disk was opened with
  pub record HasReadFrom (s : Streams) (play : Play D) (room : ℕ) : Type 0 where
    pub reads : (records : List Decoded) (at : D) → HasPlayed faults clock crash records at [] start s.written_before s.written_before → HasRead faults clock crash records at s play room

  pub record ReadsFrom (result : Result (Unit {0}) Ending) (s : Streams) (play : Play D) : Type 0 where
    pub reads : (records : List Decoded) (at : D) → HasPlayed faults clock crash records at [] start s.written_before s.written_before → Reads faults clock crash records at result s play

  pub record EndsFrom (ending : Ending) (s : Streams) (store : StoreState D) : Type 0 where
    pub ends : (records : List Decoded) (at : D) → HasPlayed faults clock crash records at [] start s.written_before s.written_before → EndsRun faults clock crash records at ending s store

-- how the run ends once the script has ended, by the answer to its last line
abbrev pub FinishesBy : {D : Type 0} → (D → ℕ) → (D → ℕ) → (D → ℕ → List ℕ → Type 0) → Ending → Play D → Option (List ℕ) → StoreState D → Option (List ℕ) → Type 0
FinishesBy faults clock crash Accepted play before store now = Finishes faults clock crash false play before store now
FinishesBy faults clock crash Refusing play before store now = Finishes faults clock crash true play before store now
FinishesBy faults clock crash SinkFault play before store now = StopsAtEnd faults clock crash stop.SinkFault play before store now
FinishesBy faults clock crash DiskFault play before store now = StopsAtEnd faults clock crash stop.DiskFault play before store now
FinishesBy faults clock crash NoMemory play before store now = StopsAtEnd faults clock crash stop.NoMemory play before store now
FinishesBy faults clock crash SourceFault play before store now = ⊥
FinishesBy faults clock crash TooLong play before store now = ⊥
