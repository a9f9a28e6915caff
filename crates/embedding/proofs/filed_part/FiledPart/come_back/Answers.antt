use Rattle.std.proofs.Common.{◌≡◌, Err, refl, rules}
use Rattle.engine_log.specs.Back.{IsBack, IsBackFault}
use Rattle.embedding.specs.Filing.{own_header, keeping_session, IsNew, Unread, Unfit, Written}
use Rattle.embedding.proofs.FilingLemmas.{is_new}
use Rattle.embedding.proofs.filed_part.FiledPart.come_back.Goals as goal

pub returns-in_err-come_back-in-Ok-Some-clause-why : goal.returns-in_err-come_back-in-Ok-Some-clause-why
returns-in_err-come_back-in-Ok-Some-clause-why c =
    let old = c.args.self.now in
    let new : IsNew old = is_new old (search rules) (search rules) in
    let said : IsBack (own_header old.part.state) old.part.gathered.bytes.items c.in-Ok-Some.back = search rules in
    let is : c.from_residual.result ≡ Err c.in_err-come_back-in-Ok-Some.field-0.0 = search rules in
    rw is (Unfit new c.in-Ok-Some.back said c.in_err-come_back-in-Ok-Some.ensures.why)

pub returns-in_ok-come_back-in-Ok-Some-clause-taken : goal.returns-in_ok-come_back-in-Ok-Some-clause-taken
returns-in_ok-come_back-in-Ok-Some-clause-taken c =
    let old = c.args.self.now in
    let said : IsBack (own_header old.part.state) old.part.gathered.bytes.items c.in-Ok-Some.back = search rules in
    let file : c.set_session.new.self ≡ keeping_session c.in-Ok-Some.back.file c.args.self.now.file = search rules in
    Written c.in-Ok-Some.back said c.in_ok-come_back-in-Ok-Some.ensures.done file refl

pub returns-in-Err-clause-why : goal.returns-in-Err-clause-why
returns-in-Err-clause-why c =
    let old = c.args.self.now in
    let new : IsNew old = is_new old (search rules) (search rules) in
    let why : IsBackFault (own_header old.part.state) old.part.gathered.bytes.items c.in-Err.fault = search rules in
    Unread new (record { why = c.in-Err.fault; is = why; number = c.back_code.ensures.number; place_is = c.back_code.ensures.place })
