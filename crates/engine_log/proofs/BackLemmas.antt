-- What goes on behind the frames that a file has.
use Rattle.std.proofs.Common.{arith, ◌≡◌, ℕ, ◌-◌, List, [], Option, Some, length, reverse, sym, ◌∙◌, ap, subst}
use Rattle.std.proofs.lemmas.List.{length-reverse}
use Rattle.tc_core.specs.declared.recovery.SiteNote.{SiteNote}
use Rattle.frame_file.specs.Frame.{frames_from, ArePayloads}
use Rattle.log_file.specs.declared.header.Header.{Header}
use Rattle.log_file.specs.declared.stored.Stored.{Stored}
use Rattle.log_file.specs.Bytes.{Rows, of_session}
use Rattle.log_file.specs.Found.{base_in}
use Rattle.log_file.specs.Reading.{Says}
use Rattle.log_file.specs.Stored.{IsStored}
use Rattle.engine_log.specs.Handing.{HasNoRecords, Begun}
use Rattle.engine_log.specs.Back.{IsBack, HasRecords}
use Rattle.engine_log.specs.declared.back.Back.{Back}

-- of the session that the file says
own_session : (h x : Header) (s : Option ℕ) → x ≡ of_session h x.session → s ≡ x.session → x ≡ of_session h s
own_session h x s own is = own ∙ ap (of_session h) (sym is)

pub is_back : (h : Header) (bytes : List ℕ) (s : Stored) (b : Back) → IsStored bytes s → HasNoRecords (base_in s.base)
    → s.header ≡ of_session h s.header.session → b.log ≡ s.log → b.whole ≡ length bytes - s.unfinished → b.file.header ≡ Some s.header
    → b.file.session ≡ s.header.session → b.file.frames ≡ s.frames → b.file.events ≡ length s.log.events
    → b.file.notes.items ≡ s.notes.items → IsBack h bytes b
is_back h bytes s b is none own log whole header session frames events notes =
    let own_header : s.header ≡ of_session h b.file.session = own_session h s.header b.file.session own session in
    let events_are : reverse s.log.events ≡ reverse b.log.events = ap (λ l. reverse l.events) (sym log) in
    let said : Says s.header is.payloads (base_in s.base) b.file.notes.items (reverse b.log.events)
    = subst (λ (k : List SiteNote). Says s.header is.payloads (base_in s.base) k (reverse b.log.events)) (sym notes)
    (subst (Says s.header is.payloads (base_in s.base) s.notes.items) events_are is.says) in
    let says : Says (of_session h b.file.session) is.payloads (base_in s.base) b.file.notes.items (reverse b.log.events)
    = subst (λ (x : Header). Says x is.payloads (base_in s.base) b.file.notes.items (reverse b.log.events)) own_header said in
    let begun : b.file.header ≡ Some (of_session h b.file.session) = header ∙ ap (λ (x : Header). Some x) own_header in
    record {
      payloads = is.payloads;
      reads = is.reads;
      ends = is.ends;
      whole = omega (arith, whole, is.unfinished);
      base = base_in s.base;
      none = none;
      says = says;
      header = begun;
      handed = Begun (of_session h b.file.session) begun
          (record {
            base = base_in s.base;
            none = none;
            behind = says.behind;
            frames = record {
              batches = says.batches;
              are = says.are;
              is = ap (λ (ps : List (List ℕ)). frames_from 0 ps) says.is;
              fit = subst ArePayloads says.is is.reads.fit;
              frames = frames ∙ (is.frames ∙ ap length says.is);
              rows = sym says.printed.prints;
              count = events ∙ (ap (λ l. length l.events) (sym log) ∙ sym (length-reverse b.log.events));
              known = says.known_is;
            };
          });
    }

pub has_records : (h : Header) (bytes : List ℕ) (s : Stored) (rows : Rows) → IsStored bytes s → s.header ≡ of_session h s.header.session
    → base_in s.base ≡ Some rows → (rows ≡ [] → ⊥) → HasRecords h bytes
has_records h bytes s rows is own base some = record {
  session = s.header.session;
  payloads = is.payloads;
  reads = is.reads;
  base = rows;
  some = some;
  notes = s.notes.items;
  events = reverse s.log.events;
  says = subst (λ (b : Option Rows). Says (of_session h s.header.session) is.payloads b s.notes.items (reverse s.log.events)) base
      (subst (λ (x : Header). Says x is.payloads (base_in s.base) s.notes.items (reverse s.log.events)) own is.says);
}
