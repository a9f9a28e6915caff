use Rattle.std.proofs.Common.{refl}
use Rattle.embedding.specs.declared.engine.Body.TheVariants.{Tc, Code}
use Rattle.embedding.proofs.ByNumber.{begun_as}
use Rattle.embedding.proofs.engine.started.Goals as goal

pub returns-in-Ok-clause-ok : goal.returns-in-Ok-clause-ok
returns-in-Ok-clause-ok c = begun_as c.args.frame.now (Tc c.in-Ok.part) 1 c.in-1.is
    (record {
      part = c.in-Ok.part;
      is = refl;
      few = c.if-frame-gt65535.false;
      dcs = c.in-Ok.ensures.dcs;
      procs = c.in-Ok.ensures.procs;
      events = c.in-Ok.ensures.events;
      given_up = c.in-Ok.ensures.given_up;
      sites = c.in-Ok.ensures.sites;
      requests = c.in-Ok.ensures.requests;
      gathered = c.in-Ok.ensures.gathered;
      file = c.in-Ok.ensures.file;
      session = c.in-Ok.ensures.session;
      prepared = c.in-Ok.ensures.prepared;
    })

pub returns-in-3-clause-ok : goal.returns-in-3-clause-ok
returns-in-3-clause-ok c = begun_as c.args.frame.now (Code c.new-in-3.result) 3 c.in-3.is
    (record {
      part = c.new-in-3.result;
      is = refl;
      program = c.new-in-3.ensures.program;
      gathered = c.new-in-3.ensures.gathered;
    })
