-- Frames that are read one after another, and written as those of a log.
use Rattle.std.proofs.Common.{arith, ◌≡◌, ℕ, ◌+◌, List, [], ◌∷◌, ◌++◌, length, refl, sym, ◌∙◌, ap, append_assoc, length-append}
use Rattle.std.proofs.lemmas.List.{append-nil}
use Rattle.frame_file.specs.Frame.{framed, frames_from, IsPayload, ArePayloads}
use Rattle.frame_file.proofs.Frames.{frames_push, fit_push}
use Rattle.log_file.specs.declared.header.Header.{Header}
use Rattle.log_file.specs.Bytes.{header_bytes}

pub record IsSoFar (h : Header) (number : ℕ) (bytes file : List ℕ) (next count : ℕ) (rest : List ℕ) : Type 0 where
  pub payloads : List (List ℕ)
  pub is : bytes ≡ frames_from number payloads ++ rest
  pub fit : ArePayloads (header_bytes h ∷ payloads)
  pub file_is : file ≡ frames_from 0 (header_bytes h ∷ payloads)
  pub next_is : next ≡ number + length payloads
  pub count_is : count ≡ length payloads

pub none_so_far : (h : Header) (number : ℕ) (bytes file : List ℕ) → file ≡ framed 0 (header_bytes h) → IsPayload (header_bytes h) → IsSoFar h number bytes file number 0 bytes
none_so_far h number bytes file is head = record {
  payloads = [];
  is = refl;
  fit = (head, tt);
  file_is = is ∙ sym (append-nil (framed 0 (header_bytes h)));
  next_is = omega arith;
  count_is = refl;
}

pub so_far_on : (h : Header) (number : ℕ) (bytes file new : List ℕ) (next count : ℕ) (rest payload after : List ℕ)
    → IsSoFar h number bytes file next count rest → rest ≡ framed next payload ++ after → IsPayload payload
    → new ≡ file ++ framed (count + 1) payload → IsSoFar h number bytes new (next + 1) (count + 1) after
so_far_on h number bytes file new next count rest payload after so cut fits grown =
    let ps = so.payloads in
    let head = header_bytes h ∷ ps in
    let one_more = length-append ps (payload ∷ []) in
    let here : count + 1 ≡ 0 + length head = omega (arith, so.count_is) in
    record {
      payloads = ps ++ payload ∷ [];
      is =
          so.is
          ∙ (ap (λ (b : List ℕ). frames_from number ps ++ b) cut
          ∙ (sym (append_assoc (frames_from number ps) (framed next payload) after)
          ∙ ap (λ (b : List ℕ). b ++ after) (sym (frames_push number next ps payload so.next_is))));
      fit = fit_push (header_bytes h ∷ ps) payload so.fit fits;
      file_is = grown ∙ (ap (λ (b : List ℕ). b ++ framed (count + 1) payload) so.file_is ∙ sym (frames_push 0 (count + 1) head payload here));
      next_is = omega (arith, so.next_is, one_more);
      count_is = omega (arith, so.count_is, one_more);
    }
