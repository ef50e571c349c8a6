use Rattle.scrib_record.proofs.role_state.RoleState.step_send.Goals as goal

pub returns : goal.returns
returns c n = (λ e. (c.if-not-self.false, (c.step_send.ensures.steps n).0 e), λ h. (c.step_send.ensures.steps n).1 h.1)
