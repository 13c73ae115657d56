use Rattle.std.proofs.Common.{refl, ◌∙◌, arith}
use Rattle.hive_pump.proofs.Inputs.{few-bytes, reads-piece, reads-record}
use Rattle.hive_pump.proofs.Stopping.{ends-read, ends-reading, ends-refused, leaves-off}
use Rattle.hive_pump.specs.declared.ending.Ending.TheVariants as ending
use Rattle.hive_pump.proofs.input.Input.next.Goals as goal

pub returns-in-Event : goal.returns-in-Event
returns-in-Event g c = record {
  says = λ job given first u.
      let told = c.in-Event.ensures.tells job u.fed given u.reads in (
        told.1,
        reads-record g.S.Source.rest g.S.Source.faults job first c.args.source.now given c.args.self.now u c.in-Event.event _
            told.0 c.in-Event.ensures.ended refl refl,
      );
}

pub read_on-requires-clause-few : goal.read_on-requires-clause-few
read_on-requires-clause-few g c =
    let u = c.requires.reads.3 in
    let told = c.in-More.ensures.tells c.requires.reads.0 u.fed c.requires.reads.1 u.reads in
    let few = few-bytes g.S.Source.rest g.S.Source.faults c.requires.reads.0 c.requires.reads.2 c.args.source.now
    c.requires.reads.1 c.args.self.now u told.2 in
    let room = c.as_mut_slice-buffer.ensures.len in
    omega (arith, few, room, u.room)

pub returns-in-Ok : goal.returns-in-Ok
returns-in-Ok g c = record {
  says = λ job given first u.
      let told = c.in-More.ensures.tells job u.fed given u.reads in
      reads-piece g.S.Source.rest g.S.Source.faults job first c.args.source.now given c.args.self.now u c.read_on.new.source
      c.next.new.self _ told.0 c.in-Ok.ensures told.1 told.2 refl;
}

pub returns-in-Err : goal.returns-in-Err
returns-in-Err g c = record {
  says = λ job given first u.
      let told = c.in-More.ensures.tells job u.fed given u.reads in
      ends-reading g.S.Source.rest g.S.Source.faults job first c.args.source.now given c.args.self.now u c.read_on.new.source
      c.next.new.self c.read_on.new.reader c.args.self.now.taken c.read_on.new.taken c.in-Err.ended told.0
      (c.in-More.ensures.ended ∙ told.1) told.2 c.in-Err.ensures;
}

pub returns-in-Refused : goal.returns-in-Refused
returns-in-Refused g c = record {
  says = λ job given first u.
      let told = c.in-Refused.ensures.tells job u.fed given u.reads in
      ends-refused g.S.Source.rest g.S.Source.faults job first c.args.source.now given c.args.self.now u
      c.in-Refused.refusal told.1;
}

pub returns-in-Finished : goal.returns-in-Finished
returns-in-Finished g c = record {
  says = λ job given first u.
      let told = c.in-Finished.ensures.tells job u.fed given u.reads in
      ends-read g.S.Source.rest g.S.Source.faults job first c.args.source.now given c.args.self.now u told.1 told.2;
}

pub returns-in-NoMemory : goal.returns-in-NoMemory
returns-in-NoMemory g c = record {
  says = λ job given first u.
      leaves-off g.S.Source.rest g.S.Source.faults job first c.args.source.now given c.args.self.now u ending.NoMemory tt;
}
