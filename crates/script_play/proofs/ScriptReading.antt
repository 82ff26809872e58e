-- Reading a script piece by piece.
use Rattle.std.proofs.Common.{◌≡◌, ◌≤◌, ◌+◌, ℕ, List, [], ◌++◌, length, Option, Result, Ok, Err, refl, sym, subst, inl, inr, arith, length-append}
use Rattle.std.specs.Io.KnownBytes.{IsAtEnd}
use Rattle.aw_io.specs.Known.{Gives, Gives-nothing, Gives-append}
use Rattle.aw_codec.specs.declared.record.Decoded.{Decoded}
use Rattle.aw_store.specs.Stores.{StoreState}
use Rattle.script_play.specs.declared.ending.Ending.{Ending}
use Rattle.script_play.specs.declared.ending.Ending.TheVariants.{Accepted, Refusing, SourceFault, SinkFault, DiskFault, NoMemory, TooLong}
use Rattle.script_play.specs.declared.stop.Stop.{Stop}
use Rattle.script_play.specs.declared.stop.Stop.TheVariants as stop
use Rattle.script_play.specs.Runs.{most_bytes, Streams, streams}
use Rattle.script_play.specs.inside.Playing.{Play, Feeds, StopsIn}
use Rattle.script_play.specs.inside.ScriptReading.{GivesOne, EndsOrFails, stop_ending, CutOff, StoppedReading, HasReadFrom, ReadsFrom, EndsFrom, FinishesBy}

-- a source that gave nothing more
gives_as : {a b c : Option (List ℕ)} {bytes : List ℕ} → Gives a b bytes → c ≡ b → Gives a c bytes
gives_as {a} {bytes = bytes} gives e = subst (λ left. Gives a left bytes) (sym e) gives

module _ {D : Type 0} (faults clock : D → ℕ) (crash : D → ℕ → List ℕ → Type 0) (start : Play D) where
  pub read_nothing : (left written : Option (List ℕ)) → HasReadFrom faults clock crash start (streams left left written written) start most_bytes
  read_nothing left written = record { reads = λ records at h. record { taken = []; gives = Gives-nothing left; size = refl; played = h } }

  pub read_more : {a b c u v w : Option (List ℕ)} {old new : Play D} {room less : ℕ} (bytes : List ℕ) → HasReadFrom faults clock crash start (streams a b u v) old room → Gives b c bytes → Feeds faults clock crash bytes old v new w → length bytes + less ≡ room → HasReadFrom faults clock crash start (streams a c u w) new less
  read_more {u = u} bytes from gives feeds size = record {
    reads = λ records at start_h.
        let h = from.reads records at start_h in
        record {
          taken = h.taken ++ bytes;
          gives = Gives-append h.gives gives;
          size = omega (arith, length-append h.taken bytes, h.size, size);
          played = feeds.plays records at h.taken u h.played;
        };
  }

  stopped-as : (records : List Decoded) (at : D) (s : Streams) (store : StoreState D) (stop : Stop) → CutOff faults clock crash records at stop s store → StoppedReading faults clock crash records at (stop_ending stop) s store
  stopped-as records at s store stop.SinkFault it = it
  stopped-as records at s store stop.DiskFault it = it
  stopped-as records at s store stop.NoMemory it = it

  pub reads_stopped : {a b c u v w : Option (List ℕ)} {old new : Play D} {room : ℕ} (stop : Stop) (ending : Ending) (bytes : List ℕ) → ending ≡ stop_ending stop → HasReadFrom faults clock crash start (streams a b u v) old room → Gives b c bytes → StopsIn faults clock crash stop bytes old v new w → length bytes ≤ room → ReadsFrom faults clock crash start (Err ending) (streams a c u w) new
  reads_stopped {a} {c = c} {u = u} {w = w} {new = new} stop ending bytes is from gives stops size = record {
    reads = λ records at start_h.
        let h = from.reads records at start_h in
        let it : CutOff faults clock crash records at stop (streams a c u w) new.world.store = record {
          taken = h.taken ++ bytes;
          gives = Gives-append h.gives gives;
          size = omega (arith, length-append h.taken bytes, h.size, size);
          stopped = stops.stops records at h.taken u h.played;
        } in
        subst (λ those. StoppedReading faults clock crash records at those (streams a c u w) new.world.store) (sym is) (stopped-as records at (streams a c u w) new.world.store stop it);
  }

  pub reads_end : {a b c u v : Option (List ℕ)} {play : Play D} {room : ℕ} → HasReadFrom faults clock crash start (streams a b u v) play room → c ≡ b → IsAtEnd c → ReadsFrom faults clock crash start (Ok tt) (streams a c u v) play
  reads_end from e end = record {
    reads = λ records at start_h.
        let h = from.reads records at start_h in
        record { taken = h.taken; gives = gives_as h.gives e; size = omega (arith, h.size); at_end = end; played = h.played };
  }

  pub reads_broken : {a b c u v : Option (List ℕ)} {play : Play D} {room : ℕ} → HasReadFrom faults clock crash start (streams a b u v) play room → c ≡ b → ReadsFrom faults clock crash start (Err SourceFault) (streams a c u v) play
  reads_broken {play = play} from e = record {
    reads = λ records at start_h.
        let h = from.reads records at start_h in
        record { taken = h.taken; gives = gives_as h.gives e; size = omega (arith, h.size); text = h.played.text; refused = play.refused; w = play.world; lines = h.played.lines; store_is = refl; written = h.played.written };
  }

  reads-over : {a b c u v : Option (List ℕ)} {play : Play D} {room : ℕ} → HasReadFrom faults clock crash start (streams a b u v) play room → room ≤ 0 → GivesOne b c → ReadsFrom faults clock crash start (Err TooLong) (streams a c u v) play
  reads-over {play = play} from full one = record {
    reads = λ records at start_h.
        let h = from.reads records at start_h in
        record { taken = h.taken; next = one.byte; gives = Gives-append h.gives one.gives; size = omega (arith, h.size, full); text = h.played.text; refused = play.refused; w = play.world; lines = h.played.lines; store_is = refl; written = h.played.written };
  }

  -- all that a script may have was played, and the source was asked once more
  pub reads_full : (a b c u v : Option (List ℕ)) (play : Play D) (room : ℕ) (r : Result (Unit {0}) Ending) → HasReadFrom faults clock crash start (streams a b u v) play room → room ≤ 0 → EndsOrFails r b c → ReadsFrom faults clock crash start r (streams a c u v) play
  reads_full a b c u v play room (Ok done) h full e = reads_end h e.0 e.1
  reads_full a b c u v play room (Err TooLong) h full e = reads-over h full e
  reads_full a b c u v play room (Err SourceFault) h full e = reads_broken h e
  reads_full a b c u v play room (Err Accepted) h full e = absurd e
  reads_full a b c u v play room (Err Refusing) h full e = absurd e
  reads_full a b c u v play room (Err SinkFault) h full e = absurd e
  reads_full a b c u v play room (Err DiskFault) h full e = absurd e
  reads_full a b c u v play room (Err NoMemory) h full e = absurd e

  -- ---- the end of the run

  pub ends_reading : (ending : Ending) (a c u v : Option (List ℕ)) (play : Play D) → ReadsFrom faults clock crash start (Err ending) (streams a c u v) play → EndsFrom faults clock crash start ending (streams a c u v) play.world.store
  ends_reading SourceFault a c u v play r = record { ends = λ records at h. r.reads records at h }
  ends_reading TooLong a c u v play r = record { ends = λ records at h. r.reads records at h }
  ends_reading SinkFault a c u v play r = record { ends = λ records at h. inl (r.reads records at h) }
  ends_reading DiskFault a c u v play r = record { ends = λ records at h. inl (r.reads records at h) }
  ends_reading NoMemory a c u v play r = record { ends = λ records at h. inl (r.reads records at h) }
  ends_reading Accepted a c u v play r = record { ends = λ records at h. absurd (r.reads records at h) }
  ends_reading Refusing a c u v play r = record { ends = λ records at h. absurd (r.reads records at h) }

  pub ends_script : (ending : Ending) (a c u v w : Option (List ℕ)) (play : Play D) (store : StoreState D) → ReadsFrom faults clock crash start (Ok tt) (streams a c u v) play → FinishesBy faults clock crash ending play v store w → EndsFrom faults clock crash start ending (streams a c u w) store
  ends_script Accepted a c u v w play store r f = record { ends = λ records at h. let it = r.reads records at h in record { taken = it.taken; gives = it.gives; size = it.size; at_end = it.at_end; finished = f.finishes records at it.taken u it.played } }
  ends_script Refusing a c u v w play store r f = record { ends = λ records at h. let it = r.reads records at h in record { taken = it.taken; gives = it.gives; size = it.size; at_end = it.at_end; finished = f.finishes records at it.taken u it.played } }
  ends_script SinkFault a c u v w play store r f = record { ends = λ records at h. let it = r.reads records at h in inr (record { taken = it.taken; gives = it.gives; size = it.size; at_end = it.at_end; stopped = f.stops records at it.taken u it.played }) }
  ends_script DiskFault a c u v w play store r f = record { ends = λ records at h. let it = r.reads records at h in inr (record { taken = it.taken; gives = it.gives; size = it.size; at_end = it.at_end; stopped = f.stops records at it.taken u it.played }) }
  ends_script NoMemory a c u v w play store r f = record { ends = λ records at h. let it = r.reads records at h in inr (record { taken = it.taken; gives = it.gives; size = it.size; at_end = it.at_end; stopped = f.stops records at it.taken u it.played }) }
  ends_script SourceFault a c u v w play store r f = absurd f
  ends_script TooLong a c u v w play store r f = absurd f
