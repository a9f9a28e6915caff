use Rattle.std.proofs.Common.{ℕ, refl, subst}
use Rattle.tc_core.specs.Redo.{redo_behind}
use Rattle.embedding.specs.Serving.{Redoes}
use Rattle.embedding.specs.Telling.{TellsRedo}
use Rattle.embedding.proofs.ByNumber.{served_as, same_gathered}
use Rattle.embedding.proofs.tc_part.TcPart.serve.Goals as goal

pub returns-in-10 : goal.returns-in-10
returns-in-10 c = served_as _ _ _ _ _ _ c.in-10.is refl (λ _. refl) (c.more_bytes.ensures.why) (λ _. refl) (λ _. tt)
    (c.more_bytes.ensures.done) (c.more_bytes.ensures.refused) (λ _. refl) (λ _ _. refl)

pub returns-in-11 : goal.returns-in-11
returns-in-11 c = served_as _ _ _ _ _ _ c.in-11.is refl (λ _. refl) (c.more_slots.ensures.why) (λ _. refl) (λ _. tt)
    (c.more_slots.ensures.done) (c.more_slots.ensures.refused) (λ _. refl) (λ _ _. refl)

pub returns-in-12 : goal.returns-in-12
returns-in-12 c = served_as _ _ _ _ _ _ c.in-12.is refl (λ _. refl) (λ wrong. absurd (wrong c.clear.ensures.code)) (λ _. refl) (λ _. tt)
    (λ _. c.clear.ensures.done) (λ wrong. absurd (wrong c.clear.ensures.code)) (λ _. refl) (λ _ _. refl)

pub returns-in-13 : goal.returns-in-13
returns-in-13 c = served_as _ _ _ _ _ _ c.in-13.is refl (c.load.ensures.refused) (c.load.ensures.why) (c.load.ensures.done) (λ _. tt)
    (λ _. c.load.ensures.gathered) (λ _. c.load.ensures.gathered) (λ _. c.load.ensures.kept) (λ _ _. c.load.ensures.kept)

pub returns-in-14 : goal.returns-in-14
returns-in-14 c = served_as _ _ _ _ _ _ c.in-14.is refl (λ _. refl) (c.find.ensures.why) (λ _. refl) (c.find.ensures.done)
    (λ _. same_gathered _) (λ _. same_gathered _) (λ _. refl) (λ _ _. refl)

pub returns-in-15 : goal.returns-in-15
returns-in-15 c = served_as _ _ _ _ _ _ c.in-15.is refl (λ _. refl) (c.more_notes.ensures.why) (λ _. refl) (λ _. tt)
    (c.more_notes.ensures.done) (c.more_notes.ensures.refused) (λ _. refl) (λ _ _. refl)

pub returns-in-16 : goal.returns-in-16
returns-in-16 c = served_as _ _ _ _ _ _ c.in-16.is refl (c.recover.ensures.refused) (c.recover.ensures.why) (c.recover.ensures.done) (λ _. tt)
    (c.recover.ensures.taken) (c.recover.ensures.gathered) (λ _. c.recover.ensures.kept) (λ _ _. c.recover.ensures.kept)

pub returns-in-20 : goal.returns-in-20
returns-in-20 c = served_as _ _ _ _ _ _ c.in-20.is refl (c.admit.ensures.refused) (c.admit.ensures.why) (c.admit.ensures.done) (λ _. tt)
    (λ _. c.admit.ensures.gathered) (λ _. c.admit.ensures.gathered) (λ _. c.admit.ensures.kept) (λ _ _. c.admit.ensures.kept)

pub returns-in-21 : goal.returns-in-21
returns-in-21 c = served_as _ _ _ _ _ _ c.in-21.is refl (λ _. refl) (c.blocked.ensures.why) (λ _. refl) (c.blocked.ensures.done)
    (λ _. same_gathered _) (λ _. same_gathered _) (λ _. refl) (λ _ _. refl)

pub returns-in-22 : goal.returns-in-22
returns-in-22 c = served_as _ _ _ _ _ _ c.in-22.is refl (c.ask.ensures.refused) (c.ask.ensures.why) (c.ask.ensures.done) (λ _. tt)
    (λ _. c.ask.ensures.gathered) (λ _. c.ask.ensures.gathered) (λ _. tt) (λ wrong _. c.ask.ensures.kept wrong)

pub returns-in-23 : goal.returns-in-23
returns-in-23 c = served_as _ _ _ _ _ _ c.in-23.is refl (c.undo.ensures.refused) (c.undo.ensures.why) (c.undo.ensures.done) (λ _. tt)
    (λ _. c.undo.ensures.gathered) (λ _. c.undo.ensures.gathered) (λ _. tt) (λ wrong _. c.undo.ensures.kept wrong)

pub returns-in-24 : goal.returns-in-24
returns-in-24 c = served_as _ _ _ _ _ _ c.in-24.is refl (λ _. refl) (c.wire.ensures.why) (λ _. refl) (c.wire.ensures.done)
    (λ _. same_gathered _) (λ _. same_gathered _) (λ _. refl) (λ _ _. refl)

pub returns-in-25 : goal.returns-in-25
returns-in-25 c = served_as _ _ _ _ _ _ c.in-25.is refl (c.answer.ensures.refused) (c.answer.ensures.why) (c.answer.ensures.done) (λ _. tt)
    (λ _. c.answer.ensures.gathered) (λ _. c.answer.ensures.gathered) (λ _. tt) (c.answer.ensures.kept)

pub returns-in-26 : goal.returns-in-26
returns-in-26 c = served_as _ _ _ _ _ _ c.in-26.is refl (c.give_up.ensures.refused) (c.give_up.ensures.why) (c.give_up.ensures.done) (λ _. tt)
    (λ _. c.give_up.ensures.gathered) (λ _. c.give_up.ensures.gathered) (λ _. tt) (λ wrong _. c.give_up.ensures.kept wrong)

pub returns-in-27 : goal.returns-in-27
returns-in-27 c = served_as _ _ _ _ _ _ c.in-27.is refl (c.end.ensures.refused) (c.end.ensures.why) (c.end.ensures.done) (λ _. tt)
    (λ _. c.end.ensures.gathered) (λ _. c.end.ensures.gathered) (λ _. c.end.ensures.kept) (λ _ _. c.end.ensures.kept)

pub returns-in-28 : goal.returns-in-28
returns-in-28 c = served_as _ _ _ _ _ _ c.in-28.is refl (λ _. refl) (λ wrong. absurd (wrong c.open_count.ensures.code)) (λ _. refl)
    (λ _. c.open_count.ensures.done)
    (λ _. same_gathered _) (λ _. same_gathered _) (λ _. refl) (λ _ _. refl)

pub returns-in-29 : goal.returns-in-29
returns-in-29 c = served_as _ _ _ _ _ _ c.in-29.is refl (λ _. refl) (λ wrong. absurd (wrong c.log_length.ensures.code)) (λ _. refl)
    (λ _. c.log_length.ensures.done)
    (λ _. same_gathered _) (λ _. same_gathered _) (λ _. refl) (λ _ _. refl)

pub returns-in-30 : goal.returns-in-30
returns-in-30 c = served_as _ _ _ _ _ _ c.in-30.is refl (λ _. refl) (c.log_bytes.ensures.why) (λ _. refl) (c.log_bytes.ensures.done)
    (λ _. same_gathered _) (λ _. same_gathered _) (λ _. refl) (λ _ _. refl)

pub returns-in-31 : goal.returns-in-31
returns-in-31 c = served_as _ _ _ _ _ _ c.in-31.is refl (λ _. refl) (c.site.ensures.why) (λ _. refl) (c.site.ensures.done)
    (λ _. same_gathered _) (λ _. same_gathered _) (λ _. refl) (λ _ _. refl)

pub returns-in-32 : goal.returns-in-32
returns-in-32 c = served_as _ _ _ _ _ _ c.in-32.is refl (c.told.ensures.refused) (c.told.ensures.why) (c.told.ensures.done) (λ _. tt)
    (λ _. c.told.ensures.gathered) (λ _. c.told.ensures.gathered) (λ _. c.told.ensures.kept) (λ _ _. c.told.ensures.kept)

pub returns-in-33 : goal.returns-in-33
returns-in-33 c = served_as _ _ _ _ _ _ c.in-33.is refl (c.redo_next.ensures.refused) (c.redo_next.ensures.why)
    (λ z. subst (λ (n : ℕ). Redoes c.args.self.now c.args.frame.now n c.redo_next.new.self c.redo_next.new.frame) z
    (c.redo_next.ensures.done z)) (λ _. tt)
    (λ _. c.redo_next.ensures.gathered) (λ _. c.redo_next.ensures.gathered) (λ _. c.redo_next.ensures.kept) (λ _ _. c.redo_next.ensures.kept)

pub returns-in-34 : goal.returns-in-34
returns-in-34 c = served_as _ _ _ _ _ _ c.in-34.is refl (c.redone.ensures.refused) (c.redone.ensures.why) (c.redone.ensures.done) (λ _. tt)
    (λ _. c.redone.ensures.gathered) (λ _. c.redone.ensures.gathered) (λ _. c.redone.ensures.kept) (λ _ _. c.redone.ensures.kept)

pub returns-in-35 : goal.returns-in-35
returns-in-35 c = served_as _ _ _ _ _ _ c.in-35.is refl (c.begin_anew.ensures.refused) (c.begin_anew.ensures.why) (c.begin_anew.ensures.done) (λ _. tt)
    (λ _. c.begin_anew.ensures.gathered) (λ _. c.begin_anew.ensures.gathered) (λ _. c.begin_anew.ensures.kept) (λ _ _. c.begin_anew.ensures.kept)

pub returns-in-36 : goal.returns-in-36
returns-in-36 c = served_as _ _ _ _ _ _ c.in-36.is refl (λ _. refl) (λ wrong. absurd (wrong c.low_water.ensures.code)) (λ _. refl)
    (λ _. c.low_water.ensures.done)
    (λ _. same_gathered _) (λ _. same_gathered _) (λ _. refl) (λ _ _. refl)

pub returns-in-37 : goal.returns-in-37
returns-in-37 c = served_as _ _ _ _ _ _ c.in-37.is refl (λ _. refl) (c.open_from.ensures.none) (λ _. refl) (c.open_from.ensures.done)
    (λ _. same_gathered _) (λ _. same_gathered _) (λ _. refl) (λ _ _. refl)

pub returns-in-38 : goal.returns-in-38
returns-in-38 c = served_as _ _ _ _ _ _ c.in-38.is refl (c.retake.ensures.refused) (c.retake.ensures.why) (c.retake.ensures.done) (λ _. tt)
    (λ _. c.retake.ensures.gathered) (λ _. c.retake.ensures.gathered) (λ _. tt) (λ wrong _. c.retake.ensures.kept wrong)

pub returns-in-39 : goal.returns-in-39
returns-in-39 c = served_as _ _ _ _ _ _ c.in-39.is refl (λ _. refl) (c.lock_at.ensures.none) (λ _. refl) (c.lock_at.ensures.done)
    (λ _. same_gathered _) (λ _. same_gathered _) (λ _. refl) (λ _ _. refl)

pub returns-in-60 : goal.returns-in-60
returns-in-60 c = served_as _ _ _ _ _ _ c.in-60.is refl (λ _. refl) (c.waiting_from.ensures.none) (λ _. refl) (c.waiting_from.ensures.done)
    (λ _. same_gathered _) (λ _. same_gathered _) (λ _. refl) (λ _ _. refl)

pub returns-in-61 : goal.returns-in-61
returns-in-61 c = served_as _ _ _ _ _ _ c.in-61.is refl (λ _. refl) (λ _. c.redo_behind.ensures) (λ _. refl)
    (λ z. subst (λ (n : ℕ). TellsRedo (redo_behind c.args.self.now.state c.args.frame.now.dc c.args.frame.now.number) n c.redo_behind.new.frame) z c.redo_behind.ensures)
    (λ _. same_gathered _) (λ _. same_gathered _) (λ _. refl) (λ _ _. refl)

pub returns-in-62 : goal.returns-in-62
returns-in-62 c = served_as _ _ _ _ _ _ c.in-62.is refl (λ _. refl) (c.held_in_slot.ensures.why) (λ _. refl) (c.held_in_slot.ensures.done)
    (λ _. same_gathered _) (λ _. same_gathered _) (λ _. refl) (λ _ _. refl)
