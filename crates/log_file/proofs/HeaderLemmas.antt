-- A header's fields are those that were written, in each layout.
use Rattle.std.proofs.Common.{arith, ◌≡◌, inl, inr, ℕ, ◌+◌, ◌<◌, ◌^◌, Bool, true, Option, Some, None, List, []}
use Rattle.std.proofs.Common.{◌++◌, length, take, drop, refl, sym, ◌∙◌, ap, subst, append_assoc, length-append, drop_at}
use Rattle.std.specs.Prelude.{is_some}
use Rattle.std.specs.Int.{w64, to_le_bytes, from_le_bytes}
use Rattle.std.proofs.lemmas.List.{take_at, append-nil}
use Rattle.std.proofs.lemmas.Nat.{from_le_bytes-to_le_bytes_8}
use Rattle.log_file.specs.declared.header.Header.{Header}
use Rattle.log_file.specs.Bytes.{front_bytes, plain_version, based_version, session_bytes, own_bytes, header_bytes, based_header_bytes}
use Rattle.log_file.specs.Reading.{IsSession, IsHeader, IsHead}
use Rattle.log_file.specs.Stored.{IsNoHeader}
use Rattle.log_file.specs.Joining.Fields.{version_in, has_session, session_by, session_in, header_in}
use Rattle.log_file.proofs.BaseLemmas.{length_plain, length_based}

abbrev pub header_at : ℕ → ℕ → List ℕ → Option ℕ → Header
header_at dcs procedures digest session = record { dcs = dcs; procedures = procedures; digest = digest; session = session }

pub same_header : (d e p q : ℕ) (x y : List ℕ) (s t : Option ℕ) → d ≡ e → p ≡ q → x ≡ y → s ≡ t → header_at d p x s ≡ header_at e q y t
same_header d e p q x y s t a b c i = cc

-- the fields, whatever stands behind them
layout_version : (v : ℕ) (h : Header) (rest : List ℕ) → v < 2 ^ 64 → version_in (front_bytes v h ++ rest) ≡ v
unfolding front_bytes
layout_version v h rest small = from_le_bytes-to_le_bytes_8 v small

layout_dcs : (v : ℕ) (h : Header) (rest : List ℕ) → IsHeader h → from_le_bytes w64 (take 8 (drop 16 (front_bytes v h ++ rest))) ≡ h.dcs
unfolding front_bytes
layout_dcs v h rest is = from_le_bytes-to_le_bytes_8 h.dcs is.dcs

layout_procedures : (v : ℕ) (h : Header) (rest : List ℕ) → IsHeader h → from_le_bytes w64 (take 8 (drop 24 (front_bytes v h ++ rest))) ≡ h.procedures
unfolding front_bytes
layout_procedures v h rest is = from_le_bytes-to_le_bytes_8 h.procedures is.procedures

layout_digest : (v : ℕ) (h : Header) (rest : List ℕ) → drop 32 (front_bytes v h ++ rest) ≡ rest
unfolding front_bytes
layout_digest v h rest = refl

layout_behind : (v : ℕ) (h : Header) (rest : List ℕ) → drop 64 (front_bytes v h ++ rest) ≡ drop 32 rest
unfolding front_bytes
layout_behind v h rest = refl

-- the session
word_back : (n : ℕ) (rest : List ℕ) → n < 2 ^ 64 → from_le_bytes w64 (take 8 (to_le_bytes w64 n ++ rest)) ≡ n
word_back n rest small = from_le_bytes-to_le_bytes_8 n small

session_back : (v : ℕ) (h : Header) (s : Option ℕ) (rest : List ℕ) → length h.digest ≡ 32 → IsSession s
    → session_by (is_some s) (front_bytes v h ++ (h.digest ++ (session_bytes s ++ rest))) ≡ s
session_back v h None rest whole small = refl
session_back v h (Some n) rest whole small =
    ap (λ (l : List ℕ). Some (from_le_bytes w64 (take 8 l)))
    (layout_behind v h (h.digest ++ (to_le_bytes w64 n ++ rest)) ∙ drop_at h.digest (to_le_bytes w64 n ++ rest) 32 whole)
    ∙ ap (λ (m : ℕ). Some m) (word_back n rest small)

plain_has : (s : Option ℕ) → has_session (plain_version s) ≡ is_some s
plain_has None = refl
plain_has (Some n) = refl

plain_small : (s : Option ℕ) → plain_version s < 2 ^ 64
plain_small None = omega arith
plain_small (Some n) = omega arith

based_has : (s : Option ℕ) → has_session (based_version s) ≡ is_some s
based_has None = refl
based_has (Some n) = refl

based_small : (s : Option ℕ) → based_version s < 2 ^ 64
based_small None = omega arith
based_small (Some n) = omega arith

-- what each layout begins with, in three parts
own_parts : (v : ℕ) (h : Header) (rest : List ℕ)
    → own_bytes v h ++ rest ≡ front_bytes v h ++ (h.digest ++ (session_bytes h.session ++ rest))
unfolding own_bytes
own_parts v h rest =
    append_assoc (front_bytes v h ++ h.digest) (session_bytes h.session) rest
    ∙ append_assoc (front_bytes v h) h.digest (session_bytes h.session ++ rest)

layout_back : (v : ℕ) (h : Header) (rest : List ℕ) → v < 2 ^ 64 → has_session v ≡ is_some h.session → IsHeader h → length h.digest ≡ 32
    → header_in (own_bytes v h ++ rest) ≡ h
layout_back v h rest small has is whole =
    let more = session_bytes h.session ++ rest in
    let parts = front_bytes v h ++ (h.digest ++ more) in
    let said : session_in parts ≡ h.session
    = ap (λ (b : Bool). session_by b parts) (ap has_session (layout_version v h (h.digest ++ more) small) ∙ has)
    ∙ session_back v h h.session rest whole is.session in
    ap header_in (own_parts v h rest)
    ∙ same_header _ h.dcs _ h.procedures _ h.digest _ h.session (layout_dcs v h (h.digest ++ more) is) (layout_procedures v h (h.digest ++ more) is)
    (ap (λ (l : List ℕ). take 32 l) (layout_digest v h (h.digest ++ more)) ∙ take_at h.digest more 32 whole) said

plain_back : (h : Header) → IsHeader h → length h.digest ≡ 32 → header_in (header_bytes h) ≡ h
unfolding header_bytes
plain_back h is whole =
    ap header_in (sym (append-nil (own_bytes (plain_version h.session) h)))
    ∙ layout_back (plain_version h.session) h [] (plain_small h.session) (plain_has h.session) is whole

based_back : (h : Header) (n : ℕ) → IsHeader h → length h.digest ≡ 32 → header_in (based_header_bytes h n) ≡ h
unfolding based_header_bytes
based_back h n is whole =
    layout_back (based_version h.session) h (to_le_bytes w64 n) (based_small h.session) (based_has h.session) is whole

-- of each layout
pub head_back : (h : Header) (bytes : List ℕ) → IsHeader h → length h.digest ≡ 32 → IsHead h bytes → header_in bytes ≡ h
head_back h bytes is whole (inl plain) = ap header_in plain ∙ plain_back h is whole
head_back h bytes is whole (inr based) = ap header_in based.2 ∙ based_back h based.0 is whole

head_long : (h : Header) (bytes : List ℕ) (size : ℕ) → length h.digest ≡ 32 → length (session_bytes h.session) ≡ size → IsHead h bytes
    → length bytes < 64 + size → ⊥
head_long h bytes size whole its (inl plain) short = omega (arith, short, whole, its, ap length plain, length_plain h)
head_long h bytes size whole its (inr based) short = omega (arith, short, whole, its, ap length based.2, length_based h based.0)

pub short_none : (bytes : List ℕ) → length bytes < 64 → IsNoHeader bytes
short_none bytes short h is few whole head =
    head_long h bytes (length (session_bytes h.session)) whole refl head (omega (arith, short))

-- of one that is to have a session there are too few
pub unsaid_none : (bytes : List ℕ) → has_session (version_in bytes) ≡ true → length bytes < 72 → IsNoHeader bytes
unsaid_none bytes has short h is few whole head =
    let said : session_by true bytes ≡ h.session
    = ap (λ (b : Bool). session_by b bytes) (sym has) ∙ ap (λ (g : Header). g.session) (head_back h bytes is whole head) in
    head_long h bytes 8 whole (ap (λ (s : Option ℕ). length (session_bytes s)) (sym said)) head short

pub many_none : (bytes : List ℕ) (dcs : ℕ) → dcs ≡ from_le_bytes w64 (take 8 (drop 16 bytes)) → (dcs < 2 ^ 16 → ⊥) → IsNoHeader bytes
many_none bytes dcs said many h is few whole head =
    let back : dcs ≡ h.dcs = said ∙ ap (λ (g : Header). g.dcs) (head_back h bytes is whole head) in
    many (subst (λ (n : ℕ). n < 2 ^ 16) (sym back) few)

-- what isn't the header that its fields say is none
pub other_none : (h : Header) (first : List ℕ) → h ≡ header_in first → (IsHead h first → ⊥) → IsNoHeader first
other_none h first fields differs g is few whole head =
    differs (subst (λ (x : Header). IsHead x first) (sym (fields ∙ head_back g first is whole head)) head)

-- ---- headers tell

plain_parts : (h : Header) → header_bytes h ≡ front_bytes (plain_version h.session) h ++ (h.digest ++ session_bytes h.session)
unfolding header_bytes
plain_parts h =
    sym (append-nil (own_bytes (plain_version h.session) h))
    ∙ (own_parts (plain_version h.session) h []
    ∙ ap (λ (l : List ℕ). front_bytes (plain_version h.session) h ++ (h.digest ++ l)) (append-nil (session_bytes h.session)))

version_back : (h : Header) → version_in (header_bytes h) ≡ plain_version h.session
version_back h =
    ap version_in (plain_parts h)
    ∙ layout_version (plain_version h.session) h (h.digest ++ session_bytes h.session) (plain_small h.session)

dcs_back : (h : Header) → IsHeader h → from_le_bytes w64 (take 8 (drop 16 (header_bytes h))) ≡ h.dcs
dcs_back h is =
    ap (λ (l : List ℕ). from_le_bytes w64 (take 8 (drop 16 l))) (plain_parts h)
    ∙ layout_dcs (plain_version h.session) h (h.digest ++ session_bytes h.session) is

procedures_back : (h : Header) → IsHeader h → from_le_bytes w64 (take 8 (drop 24 (header_bytes h))) ≡ h.procedures
procedures_back h is =
    ap (λ (l : List ℕ). from_le_bytes w64 (take 8 (drop 24 l))) (plain_parts h)
    ∙ layout_procedures (plain_version h.session) h (h.digest ++ session_bytes h.session) is

digest_back : (h : Header) → drop 32 (header_bytes h) ≡ h.digest ++ session_bytes h.session
digest_back h =
    ap (λ (l : List ℕ). drop 32 l) (plain_parts h) ∙ layout_digest (plain_version h.session) h (h.digest ++ session_bytes h.session)

-- two lists with tails of one length
tails_same : (a b x y : List ℕ) → length x ≡ length y → a ++ x ≡ b ++ y → (a ≡ b) × (x ≡ y)
tails_same a b x y long same =
    let size : length a ≡ length b = omega (arith, long, ap length same, length-append a x, length-append b y) in (
      sym (take_at a x (length b) size) ∙ (ap (λ (l : List ℕ). take (length b) l) same ∙ take_at b y (length b) refl),
      sym (drop_at a x (length b) size) ∙ (ap (λ (l : List ℕ). drop (length b) l) same ∙ drop_at b y (length b) refl),
    )

sessions_tell : (s t : Option ℕ) (x y : List ℕ) → IsSession s → IsSession t → plain_version s ≡ plain_version t
    → x ++ session_bytes s ≡ y ++ session_bytes t → (x ≡ y) × (s ≡ t)
sessions_tell None None x y small also version same = ((tails_same x y [] [] refl same).0, refl)
sessions_tell None (Some t) x y small also version same = absurd (omega (arith, version))
sessions_tell (Some s) None x y small also version same = absurd (omega (arith, version))
sessions_tell (Some s) (Some t) x y small also version same =
    let both = tails_same x y (to_le_bytes w64 s) (to_le_bytes w64 t) refl same in
    (both.0, ap (λ (n : ℕ). Some n) (sym (from_le_bytes-to_le_bytes_8 s small) ∙ (ap (from_le_bytes w64) both.1 ∙ from_le_bytes-to_le_bytes_8 t also)))

pub headers_tell : (a b : Header) → IsHeader a → IsHeader b → header_bytes a ≡ header_bytes b → a ≡ b
headers_tell a b x y same =
    let version = sym (version_back a) ∙ (ap version_in same ∙ version_back b) in
    let behind = sym (digest_back a) ∙ (ap (λ (l : List ℕ). drop 32 l) same ∙ digest_back b) in
    let both = sessions_tell a.session b.session a.digest b.digest x.session y.session version behind in
    same_header a.dcs b.dcs a.procedures b.procedures a.digest b.digest a.session b.session
    (sym (dcs_back a x) ∙ (ap (λ (l : List ℕ). from_le_bytes w64 (take 8 (drop 16 l))) same ∙ dcs_back b y))
    (sym (procedures_back a x) ∙ (ap (λ (l : List ℕ). from_le_bytes w64 (take 8 (drop 24 l))) same ∙ procedures_back b y))
    both.0 both.1
